-- The list that the check of an index lets pass is the index of the table, and no other: entries of used records by rising rank, as many as there are used
-- records, then 0xFF.
use lib.Seq.{take_at}
use Rattle.words.specs.Basics.{◌≡◌, refl, sym, ap, ◌∙◌, Bool, true, false, false≢true, ◌&&◌, List, [], ◌∷◌, map, ℕ, suc, ◌+◌, ◌-◌, ◌<◌, ◌≤◌, arith, eqb, leb}
use Rattle.words.specs.Basics.{length, get_or, take, drop, replicate, length-drop, length-map, length-take-le, take_all}
use Rattle.words.specs.Basics.{take-append-drop, ltb, drop_at, ltb-true, lt-ltb, leb-true, le-leb, eqb-true, eq-eqb, not-true}
use Rattle.rules.specs.Lists.{all, has, ◌&◌}
use Rattle.rules.specs.Units.{ordered, rising}
use Rattle.rules.specs.Tables.{Rec, free, is_free}
use Rattle.rules.proofs.Lists.{and_parts, split, join, same_truth, all_weaken, all_replicate}
use Rattle.rules.proofs.Order.{rising-ordered, has-ordered}
use Rattle.index_rules.specs.Index.{rank, position, ranks, filled, right_index, same, index_right, entry, entry_rank, entry_used}
use Rattle.index_rules.specs.Walks.{rising_from, placed}
use Rattle.index_rules.proofs.Entries.{length-right}
use Rattle.index_rules.proofs.Ranks.{inside_same, position-rank, ranks-has, ranks-length, placed-in_order, length-in_order}

-- Equal lists

pub same_refl : (a : List ℕ) → same a a ≡ true
unfolding same
same_refl [] = refl
same_refl (x ∷ a) = rw (eq-eqb x x refl) (same_refl a)

pub same_true : (a b : List ℕ) → same a b ≡ true → a ≡ b
unfolding same
same_true [] [] h = refl
same_true [] (y ∷ b) h = absurd (false≢true h)
same_true (x ∷ a) [] h = absurd (false≢true h)
same_true (x ∷ a) (y ∷ b) h =
    let p = and_parts (eqb x y) (same a b) h in
    let e = eqb-true x y p.0 in
    let t = same_true a b p.1 in
    cc

all_one : (v : ℕ) (s : List ℕ) → all (λ o. eqb o v) s ≡ true → s ≡ replicate (length s) v
unfolding all
all_one v [] h = refl
all_one v (o ∷ s) h =
    let p = and_parts (eqb o v) (all (λ o. eqb o v) s) h in
    let e = eqb-true o v p.0 in
    let t = all_one v s p.1 in
    cc

-- Entries by rising rank

module _ (bs : List Rec) where
  -- an entry and those behind it
  pub from_parts : (low p : ℕ) (ps : List ℕ) → rising_from bs low (p ∷ ps) ≡ true
      → (entry_used bs p ≡ true) × (leb low (entry_rank bs p) ≡ true) × (rising_from bs (suc (entry_rank bs p)) ps ≡ true)
  unfolding rising_from
  from_parts low p ps h =
      let a = and_parts (entry_used bs p & leb low (entry_rank bs p)) (rising_from bs (suc (entry_rank bs p)) ps) h in
      ((split (a.0)).0, (split (a.0)).1, a.1)

  from_low : (low : ℕ) (es : List ℕ) → rising_from bs low es ≡ true → all (leb low) (map (entry_rank bs) es) ≡ true
  unfolding all
  from_low low [] h = refl
  from_low low (p ∷ ps) h =
      let a = from_parts low p ps h in
      let l = leb-true low (entry_rank bs p) a.1 in
      rw (a.1)
      (all_weaken (leb (suc (entry_rank bs p))) (leb low) (λ x k. let n = leb-true (suc (entry_rank bs p)) x k in le-leb low x (omega arith))
      (map (entry_rank bs) ps) (from_low (suc (entry_rank bs p)) ps a.2))

  pub from-rising : (low : ℕ) (es : List ℕ) → rising_from bs low es ≡ true → rising (map (entry_rank bs) es) ≡ true
  unfolding rising
  from-rising low [] h = refl
  from-rising low (p ∷ ps) h =
      let a = from_parts low p ps h in
      let w = entry_rank bs p in
      join
      (all_weaken (leb (suc w)) (ltb w) (λ x k. let n = leb-true (suc w) x k in lt-ltb w x (omega arith)) (map (entry_rank bs) ps) (from_low (suc w) ps a.2))
      (from-rising (suc w) ps a.2)

  used-has : (p : ℕ) → entry_used bs p ≡ true → has (entry_rank bs p) (ordered (ranks 0 bs)) ≡ true
  unfolding entry_used entry_rank entry
  used-has p h =
      let a = split h in
      let n : 0 + p ≡ p = omega arith in
      has-ordered (rank (get_or bs p []) p) (ranks 0 bs) ∙ rw n at (ranks-has 0 p bs (ltb-true p (length bs) a.0) (not-true (is_free (get_or bs p [])) a.1))

  from-has : (low : ℕ) (es : List ℕ) → rising_from bs low es ≡ true → all (λ w. has w (ordered (ranks 0 bs))) (map (entry_rank bs) es) ≡ true
  unfolding all
  from-has low [] h = refl
  from-has low (p ∷ ps) h =
      let a = from_parts low p ps h in
      rw (used-has p a.0) (from-has (suc (entry_rank bs p)) ps a.2)

  pub used-within : (p : ℕ) → entry_used bs p ≡ true → p < length bs
  unfolding entry_used
  used-within p h = ltb-true p (length bs) (split h).0

  -- the positions that their ranks end with are the entries themselves
  pub from-positions : (low : ℕ) (es : List ℕ) → length bs ≤ 256 → rising_from bs low es ≡ true → map position (map (entry_rank bs) es) ≡ es
  unfolding entry_rank
  from-positions low [] s h = refl
  from-positions low (p ∷ ps) s h =
      let a = from_parts low p ps h in
      let l = used-within p a.0 in
      rw (position-rank (entry bs p) p (omega arith), from-positions (suc (entry_rank bs p)) ps s a.2)

  -- as many as there are used records: their ranks are all ranks in order
  pub from_all : (es : List ℕ) → length bs ≤ 256 → rising_from bs 0 es ≡ true → length es ≡ length (ranks 0 bs)
      → map (entry_rank bs) es ≡ ordered (ranks 0 bs)
  from_all es s h l =
      inside_same (map (entry_rank bs) es) (ordered (ranks 0 bs)) (from-rising 0 es h) (rising-ordered (ranks 0 bs)) (from-has 0 es h)
      (length-map es (entry_rank bs) ∙ l ∙ sym (length-in_order bs s))

  -- .. and the positions of ranks in order are such entries
  pub to_rising : (low : ℕ) (ws : List ℕ) → rising ws ≡ true → all (placed bs) ws ≡ true → all (leb low) ws ≡ true → rising_from bs low (map position ws) ≡ true
  unfolding rising_from rising all placed
  to_rising low [] r p l = refl
  to_rising low (w ∷ ws) r p l =
      let a = split r in
      let b = and_parts (placed bs w) (all (placed bs) ws) p in
      let c = split (b.0) in
      let e = eqb-true (entry_rank bs (position w)) w c.1 in
      let d = and_parts (leb low w) (all (leb low) ws) l in
      rw (e, join (c.0) (d.0))
      (to_rising (suc w) ws a.1 b.1 (all_weaken (ltb w) (leb (suc w)) (λ x k. let n = ltb-true w x k in le-leb (suc w) x (omega arith)) ws a.0))

  pub all_low : (ws : List ℕ) → all (leb 0) ws ≡ true
  unfolding all
  all_low [] = refl
  all_low (w ∷ ws) = rw (le-leb 0 w (omega arith)) (all_low ws)

  -- The check, of an index with n used records

  module _ (ix : List ℕ) (n : ℕ) (few : length bs ≤ 256) (long : length ix ≡ length bs) (all-used : n ≡ length (ranks 0 bs)) where
    pub passes-right : rising_from bs 0 (take n ix) ≡ true → all (λ o. eqb o free) (drop n ix) ≡ true → ix ≡ right_index bs
    unfolding right_index filled
    passes-right h g =
        let k = ranks-length 0 bs in
        let m : length (take n ix) ≡ n = length-take-le n ix (omega arith) in
        let e : map (entry_rank bs) (take n ix) ≡ ordered (ranks 0 bs) = from_all (take n ix) few h (m ∙ all-used) in
        let f : map position (ordered (ranks 0 bs)) ≡ take n ix = rw e at (from-positions 0 (take n ix) few h) in
        let o : length (drop n ix) ≡ length bs - length (take n ix) = length-drop n ix ∙ omega arith in
        rw (f, ← o, ← all_one free (drop n ix) g) (sym (take-append-drop n ix))

    pub right-passes : ix ≡ right_index bs → (rising_from bs 0 (take n ix) && all (λ o. eqb o free) (drop n ix)) ≡ true
    unfolding right_index filled
    right-passes e =
        let ps = map position (ordered (ranks 0 bs)) in
        let m : length ps ≡ n = length-map (ordered (ranks 0 bs)) position ∙ length-in_order bs few ∙ sym all-used in
        rw (
          e,
          take_at ps (replicate (length bs - length ps) free) n m,
          drop_at ps (replicate (length bs - length ps) free) n m,
          to_rising 0 (ordered (ranks 0 bs)) (rising-ordered (ranks 0 bs)) (placed-in_order bs few) (all_low (ordered (ranks 0 bs))),
        )
        (all_replicate (λ o. eqb o free) (length bs - length ps) free refl)

    -- both ways, by what its two parts answered
    pub checked : {a b : Bool} → a ≡ rising_from bs 0 (take n ix) → b ≡ all (λ o. eqb o free) (take (length ix - n) (drop n ix)) → (a && b) ≡ index_right bs ix
    unfolding index_right
    checked f g =
        let t = take_all (length ix - n) (drop n ix) (rw length-drop (omega arith)) in
        rw (f, g, t) (same_truth _ _ forth back)
      where
        forth : (rising_from bs 0 (take n ix) && all (λ o. eqb o free) (drop n ix)) ≡ true → same ix (right_index bs) ≡ true
        forth h =
            let a = and_parts (rising_from bs 0 (take n ix)) (all (λ o. eqb o free) (drop n ix)) h in
            rw (← passes-right a.0 a.1) (same_refl ix)

        back : same ix (right_index bs) ≡ true → (rising_from bs 0 (take n ix) && all (λ o. eqb o free) (drop n ix)) ≡ true
        back h = right-passes (same_true ix (right_index bs) h)

  -- an index of another length is none
  pub wrong-length : (ix : List ℕ) → length bs ≤ 256 → (length ix ≡ length bs → ⊥) → false ≡ index_right bs ix
  unfolding index_right
  wrong-length ix few h = step (same ix (right_index bs)) refl
    where
      step : (b : Bool) → same ix (right_index bs) ≡ b → false ≡ b
      step true e = absurd (h (ap length (same_true ix (right_index bs) e) ∙ length-right bs few))
      step false e = refl
