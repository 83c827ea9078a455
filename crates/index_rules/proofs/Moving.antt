-- The index after a change of the binds: the entries of records that are free now go, and the new one goes where its rank belongs.
use lib.Seq.{take-append-add}
use Rattle.words.specs.Basics.{◌≡◌, refl, sym, ap, ◌∙◌, Bool, true, false, false≢true, cond, ◌&&◌, ◌||◌, List, [], ◌∷◌, ◌++◌, map, ℕ, zero, suc, ◌+◌, ◌-◌}
use Rattle.words.specs.Basics.{◌≤◌, ◌<◌, arith, eqb, ltb, length, take, drop, replicate, length-map, eqb-true, eqb-false, eq-eqb}
use Rattle.words.specs.Basics.{ltb-true, ltb-false, lt-ltb, le-ltb}
use Rattle.rules.specs.Lists.{count, any, all, has, keep, ◌&◌}
use Rattle.rules.specs.Units.{insert, ordered, rising}
use Rattle.rules.specs.Tables.{Rec, free}
use Rattle.rules.proofs.Lists.{and_parts, or_parts, split, join, same_truth, all_keep, all-kept, few-kept}
use Rattle.rules.proofs.Order.{has-insert, has-keep, length-insert, rising_parts, rising-insert, rising-keep, rising-ordered, rising_unique}
use Rattle.index_rules.specs.Index.{position, ranks, filled, right_index, entry, entry_used, entry_rank}
use Rattle.index_rules.specs.Walks.{ranked, placed, insert_at, used_only, put_in, put_in_used, Listed, Kept, Stale}
use Rattle.index_rules.proofs.Ranks.{position-rank, ranks-length, placed-used, placed-rank, has-in_order, placed-in_order, length-in_order}
use Rattle.index_rules.proofs.Entries.{free_unused, ranked-filled, length-filled, length-right}

-- A position put in where its rank belongs

none-lower : (u w : ℕ) (us : List ℕ) → all (ltb u) us ≡ true → w ≤ u → count (λ x. ltb x w) us ≡ 0
unfolding all count
none-lower u w [] h l = refl
none-lower u w (v ∷ us) h l =
    let a = and_parts (ltb u v) (all (ltb u) us) h in
    let i = ltb-true u v a.0 in
    rw (le-ltb v w (omega arith)) (none-lower u w us a.1 l)

insert-position : (w : ℕ) (ws tail : List ℕ) → rising ws ≡ true → has w ws ≡ false
    → take (count (λ u. ltb u w) ws) (map position ws ++ tail) ++ position w ∷ drop (count (λ u. ltb u w) ws) (map position ws ++ tail)
    ≡ map position (insert w ws) ++ tail
unfolding has any count insert
insert-position w [] tail r h = refl
insert-position w (u ∷ us) tail r h =
    let a = or_parts (eqb w u) (any (eqb w) us) h in
    let b = rising_parts u us r in
    step (ltb w u) refl a.0 b.0 (insert-position w us tail b.1 a.1)
  where
    step : (b : Bool) → ltb w u ≡ b → eqb w u ≡ false → all (ltb u) us ≡ true
        → take (count (λ u. ltb u w) us) (map position us ++ tail) ++ position w ∷ drop (count (λ u. ltb u w) us) (map position us ++ tail)
        ≡ map position (insert w us) ++ tail
        → take (count (λ u. ltb u w) (u ∷ us)) (map position (u ∷ us) ++ tail)
        ++ position w ∷ drop (count (λ u. ltb u w) (u ∷ us)) (map position (u ∷ us) ++ tail)
        ≡ map position (cond b (w ∷ u ∷ us) (cond (eqb w u) (u ∷ us) (u ∷ insert w us))) ++ tail
    step true e n g ih =
        let l = ltb-true w u e in
        rw (le-ltb u w (omega arith), none-lower u w us g (omega arith))
    step false e n g ih =
        let l = ltb-false w u e in
        let m : u < w = omega (arith, eqb-false w u n) in
        rw (lt-ltb u w m, n) (ap (λ (s : List ℕ). position u ∷ s) ih)

take-replicate : (n v : ℕ) → take n (replicate (suc n) v) ≡ replicate n v
take-replicate zero v = refl
take-replicate (suc n) v = ap (λ (s : List ℕ). v ∷ s) (take-replicate n v)

-- the last 0xFF goes
one_less : (w n : ℕ) (ws : List ℕ) → length ws < n → has w ws ≡ false
    → take n (map position (insert w ws) ++ replicate (n - length (map position ws)) free) ≡ filled n (map position (insert w ws))
unfolding filled
one_less w n ws l h =
    let e : length (map position (insert w ws)) ≡ suc (length ws) = length-map (insert w ws) position ∙ length-insert w ws h in
    let m : n - length (map position ws) ≡ suc (n - suc (length ws)) = rw length-map (omega arith) in
    let k : n ≡ length (map position (insert w ws)) + (n - suc (length ws)) = omega (arith, e) in
    let q = ap (λ (i : ℕ). take i (map position (insert w ws) ++ replicate (suc (n - suc (length ws))) free)) k in
    rw (m, e)
    (q ∙ take-append-add (map position (insert w ws)) (replicate (suc (n - suc (length ws))) free) (n - suc (length ws))
    ∙ ap (λ (s : List ℕ). map position (insert w ws) ++ s) (take-replicate (n - suc (length ws)) free))

module _ (bs : List Rec) (few : length bs ≤ 255) (n : ℕ) (ws : List ℕ) (r : rising ws ≡ true) (p : all (placed bs) ws ≡ true) where
  insert-filled : (w : ℕ) → length ws < n → has w ws ≡ false
      → insert_at (ranked bs w (filled n (map position ws))) (position w) (filled n (map position ws)) ≡ filled n (map position (insert w ws))
  unfolding insert_at filled
  insert-filled w l h =
      let m : length (map position ws) ≤ n = rw length-map (omega arith) in
      let long : length (map position ws ++ replicate (n - length (map position ws)) free) ≡ n = length-filled n (map position ws) m in
      rw (
        ranked-filled bs few w ws (n - length (map position ws)) p,
        long,
        insert-position w ws (replicate (n - length (map position ws)) free) r h,
      )
      (one_less w n ws l h)

-- Entries that go

all_both : (P Q R : ℕ → Bool) → ((x : ℕ) → P x ≡ true → Q x ≡ true → R x ≡ true) → (l : List ℕ) → all P l ≡ true → all Q l ≡ true → all R l ≡ true
unfolding all
all_both P Q R i [] h g = refl
all_both P Q R i (x ∷ l) h g =
    let a = and_parts (P x) (all P l) h in
    let b = and_parts (Q x) (all Q l) g in
    rw (i x a.0 b.0) (all_both P Q R i l a.1 b.1)

module _ (Q : ℕ → Bool) where
  keep-entries : (ws : List ℕ) (k : ℕ) → Q free ≡ false → keep Q (map position ws ++ replicate k free) ≡ map position (keep (λ w. Q (position w)) ws)
  unfolding keep
  keep-entries [] zero h = refl
  keep-entries [] (suc k) h = rw h (keep-entries [] k h)
  keep-entries (w ∷ ws) k h = step (Q (position w)) (keep-entries ws k h)
    where
      step : (b : Bool) → keep Q (map position ws ++ replicate k free) ≡ map position (keep (λ w. Q (position w)) ws)
          → cond b (position w ∷ keep Q (map position ws ++ replicate k free)) (keep Q (map position ws ++ replicate k free))
          ≡ map position (cond b (w ∷ keep (λ w. Q (position w)) ws) (keep (λ w. Q (position w)) ws))
      step true ih = ap (λ (s : List ℕ). position w ∷ s) ih
      step false ih = ih

-- From the index before to the index after

module _ (p : ℕ) (bs bs' : List Rec) (few : length bs' ≤ 255) (K : Kept p bs bs') where
  abbrev ws : List ℕ
  ws = ordered (ranks 0 bs)

  -- the ranks of the entries that stay
  abbrev vs : List ℕ
  vs = keep (λ w. entry_used bs' (position w)) ws

  short : length bs ≤ 255
  short = omega (arith, few, K.long)

  -- an entry that is used in both tables is of the same record
  used-same : (j : ℕ) → (j ≡ p → ⊥) → entry_used bs' j ≡ true → (entry bs' j ≡ entry bs j) × (entry_used bs j ≡ true)
  unfolding entry_used
  used-same j n h =
      let e = K.others j n h in
      let a = split h in
      (e, join (rw K.long at (a.0)) (rw e at (a.1)))

  not_p : (w : ℕ) → placed bs w ≡ true → position w ≡ p → ⊥
  not_p w h e = false≢true (sym K.was_free ∙ rw e at (placed-used bs w h))

  stays : (w : ℕ) → placed bs w ≡ true → entry_used bs' (position w) ≡ true → placed bs' w ≡ true
  unfolding placed entry_rank
  stays w h u =
      let e = (used-same (position w) (not_p w h) u).0 in
      join u (rw e (split h).1)

  stood : (w : ℕ) → (position w ≡ p → ⊥) → placed bs' w ≡ true → placed bs w ≡ true
  unfolding placed entry_rank
  stood w n h =
      let e = used-same (position w) n (split h).0 in
      join e.1 (rw e.0 at (split h).1)

  vs-rising : rising vs ≡ true
  vs-rising = rising-keep (λ w. entry_used bs' (position w)) ws (rising-ordered (ranks 0 bs))

  vs-has : (w : ℕ) → has w vs ≡ (entry_used bs' (position w) && placed bs w)
  vs-has w = has-keep (λ w. entry_used bs' (position w)) w ws ∙ ap (λ b. entry_used bs' (position w) && b) (has-in_order bs (omega (arith, short)) w)

  vs-placed : all (placed bs') vs ≡ true
  vs-placed =
      all_both (λ w. entry_used bs' (position w)) (placed bs) (placed bs') (λ w u h. stays w h u) vs (all-kept (λ w. entry_used bs' (position w)) ws)
      (all_keep (placed bs) (λ w. entry_used bs' (position w)) ws (placed-in_order bs (omega (arith, short))))

  kept-entries : keep (entry_used bs') (right_index bs) ≡ map position vs
  unfolding right_index filled
  kept-entries = keep-entries (entry_used bs') ws (length bs - length (map position ws)) (free_unused bs' few)

  used_only_lem : used_only bs' (right_index bs) ≡ filled (length bs') (map position vs)
  unfolding used_only
  used_only_lem =
      let l : length (right_index bs) ≡ length bs' = length-right bs (omega (arith, short)) ∙ sym K.long in
      rw (l, kept-entries)

  -- they are no more than there are records, so the index without the others is in order
  pub used-listed : Listed bs' (used_only bs' (right_index bs))
  used-listed =
      let k = few-kept (λ w. entry_used bs' (position w)) ws in
      let n : length vs ≤ length bs' = omega (arith, k, length-in_order bs (omega (arith, short)), ranks-length 0 bs, K.long) in
      let l : length (filled (length bs') (map position vs)) ≡ length bs' = length-filled (length bs') (map position vs) (rw length-map n) in
      rw used_only_lem (record { few = few; ranks = vs; rises = vs-rising; placed = vs-placed; octets = rw l })

  -- the ranks after the change
  abbrev us : List ℕ
  us = ordered (ranks 0 bs')

  us-has : (w : ℕ) → has w us ≡ placed bs' w
  us-has = has-in_order bs' (omega (arith, few))

  -- where the record at p is free, no other rank
  none-new : entry_used bs' p ≡ false → us ≡ vs
  none-new f = rising_unique us vs (rising-ordered (ranks 0 bs')) vs-rising (λ w. us-has w ∙ same_truth _ _ (forth w) (back w) ∙ sym (vs-has w))
    where
      forth : (w : ℕ) → placed bs' w ≡ true → (entry_used bs' (position w) && placed bs w) ≡ true
      forth w h =
          let u = placed-used bs' w h in
          rw (u, stood w (λ e. false≢true (sym f ∙ rw e at u)) h)

      back : (w : ℕ) → (entry_used bs' (position w) && placed bs w) ≡ true → placed bs' w ≡ true
      back w h = let a = and_parts (entry_used bs' (position w)) (placed bs w) h in stays w a.1 a.0

  -- else its rank
  module _ (f : entry_used bs' p ≡ true) where
    within : p < length bs'
    unfolding entry_used
    within = ltb-true p (length bs') (split f).0

    rank-position : position (entry_rank bs' p) ≡ p
    unfolding entry_rank
    rank-position = position-rank (entry bs' p) p (omega (arith, few, within))

    new-placed : placed bs' (entry_rank bs' p) ≡ true
    unfolding placed
    new-placed = rw rank-position (join f (eq-eqb (entry_rank bs' p) (entry_rank bs' p) refl))

    new-there : has (entry_rank bs' p) vs ≡ false
    new-there = fails (has (entry_rank bs' p) vs) (λ h. not_p (entry_rank bs' p) (was_there (sym (vs-has (entry_rank bs' p)) ∙ h)) rank-position)
      where
        was_there : (entry_used bs' (position (entry_rank bs' p)) && placed bs (entry_rank bs' p)) ≡ true → placed bs (entry_rank bs' p) ≡ true
        was_there h = (and_parts (entry_used bs' (position (entry_rank bs' p))) (placed bs (entry_rank bs' p)) h).1

        fails : (b : Bool) → (b ≡ true → ⊥) → b ≡ false
        fails true h = absurd (h refl)
        fails false h = refl

    one-new : us ≡ insert (entry_rank bs' p) vs
    one-new =
        rising_unique us (insert (entry_rank bs' p) vs) (rising-ordered (ranks 0 bs')) (rising-insert (entry_rank bs' p) vs vs-rising)
        (λ w. us-has w ∙ same_truth _ _ (forth w) (back w) ∙ sym (has-insert w (entry_rank bs' p) vs ∙ ap (λ b. eqb w (entry_rank bs' p) || b) (vs-has w)))
      where
        forth : (w : ℕ) → placed bs' w ≡ true → (eqb w (entry_rank bs' p) || (entry_used bs' (position w) && placed bs w)) ≡ true
        forth w h = step (eqb w (entry_rank bs' p)) refl
          where
            step : (b : Bool) → eqb w (entry_rank bs' p) ≡ b → (b || (entry_used bs' (position w) && placed bs w)) ≡ true
            step true e = refl
            step false e =
                rw (placed-used bs' w h, stood w (λ q. eqb-false w (entry_rank bs' p) e (sym (placed-rank bs' w h) ∙ ap (entry_rank bs') q)) h)

        back : (w : ℕ) → (eqb w (entry_rank bs' p) || (entry_used bs' (position w) && placed bs w)) ≡ true → placed bs' w ≡ true
        back w h = step (eqb w (entry_rank bs' p)) refl h
          where
            step : (b : Bool) → eqb w (entry_rank bs' p) ≡ b → (b || (entry_used bs' (position w) && placed bs w)) ≡ true → placed bs' w ≡ true
            step true e h = rw (eqb-true w (entry_rank bs' p) e) new-placed
            step false e h = let a = and_parts (entry_used bs' (position w)) (placed bs w) h in stays w a.1 a.0

    room : length vs < length bs'
    room =
        let e = length-insert (entry_rank bs' p) vs new-there in
        omega (arith, ap length one-new, e, length-in_order bs' (omega (arith, few)), ranks-length 0 bs')

    put_in_lem : put_in bs' p (filled (length bs') (map position vs)) ≡ filled (length bs') (map position us)
    unfolding put_in
    put_in_lem = rw one-new (rw rank-position at (insert-filled bs' few (length bs') vs vs-rising vs-placed (entry_rank bs' p) room new-there))

-- so the index after a change is made of the one before
pub moved : (p : ℕ) (bs bs' : List Rec) → length bs' ≤ 255 → Kept p bs bs' → put_in_used bs' p (used_only bs' (right_index bs)) ≡ right_index bs'
unfolding put_in_used right_index
moved p bs bs' few K = rw (used_only_lem p bs bs' few K) (step (entry_used bs' p) refl)
  where
    step : (b : Bool) → entry_used bs' p ≡ b
        → cond b (put_in bs' p (filled (length bs') (map position (vs p bs bs' few K)))) (filled (length bs') (map position (vs p bs bs' few K)))
        ≡ filled (length bs') (map position (ordered (ranks 0 bs')))
    step true e = put_in_lem p bs bs' few K e
    step false e = ap (λ (ws : List ℕ). filled (length bs') (map position ws)) (sym (none-new p bs bs' few K e))

-- .. which the code does in two steps
module _ {p : ℕ} {bs' : List Rec} {ix : List ℕ} (S : Stale p bs' ix) where
  pub stale_listed : Listed bs' (used_only bs' ix)
  stale_listed = rw S.right (used-listed p S.before bs' S.few S.kept)

  pub stale_moved : put_in_used bs' p (used_only bs' ix) ≡ right_index bs'
  stale_moved = rw S.right (moved p S.before bs' S.few S.kept)
