-- Delivery by the index: the binds of the sender's device and of any device stand in two runs of its entries, and they reach whom all binds reach.
use Rattle.words.specs.Basics.{◌≡◌, refl, sym, ap, ◌∙◌, Bool, true, false, false≢true, cond, not, ◌&&◌, ◌||◌, List, [], ◌∷◌, map, ℕ, suc, ◌+◌, ◌-◌, ◌*◌, ◌^◌}
use Rattle.words.specs.Basics.{◌≤◌, ◌<◌, arith, eqb, ltb, length, get_or, or-false, eqb-true, ltb-true, ltb-false, lt-ltb, le-ltb, eqb-false}
use Rattle.words.specs.Names.{any_device}
use Rattle.rules.specs.Types.{Fields}
use Rattle.rules.specs.Lists.{any, has, keep, ◌&◌}
use Rattle.rules.specs.Octets.{octet, word, flag, number}
use Rattle.rules.specs.Units.{unit_number, unit_at, ordered}
use Rattle.rules.specs.Tables.{Rec, free, is_free, used}
use Rattle.rules.specs.Layout.{bind_source, from_any_device}
use Rattle.rules.specs.Recipients.{bind_matches, reached, bound}
use Rattle.rules.proofs.Lists.{and_parts, and_assoc, and-false, split, join, any_alike, any_append, any-keep, any-flat_map, any-map, all-kept}
use Rattle.rules.proofs.Changes.{any-or}
use Rattle.rules.proofs.Order.{any-ordered}
use Rattle.index_rules.specs.Index.{bind_key, rank, position, ranks, right_index, entry, entry_used, entry_rank}
use Rattle.index_rules.specs.Walks.{below, ranked, device_rank, placed, run_of, near, Listed}
use Rattle.index_rules.proofs.Ranks.{position-rank, placed-used, placed-in_order}
use Rattle.index_rules.proofs.Leading.{any-between}
use Rattle.index_rules.proofs.Entries.{free_above, any-filled, leading-listed, right-listed}

-- a test of the records at the ranks' positions is one of the used records
any-ranks : (q : Rec → Bool) (f : ℕ → Rec) (i : ℕ) (bs : List Rec) → i + length bs ≤ 256 → ((j : ℕ) → f (i + j) ≡ get_or bs j [])
    → any (λ w. q (f (position w))) (ranks i bs) ≡ any q (used bs)
unfolding any ranks used keep
any-ranks q f i [] h e = refl
any-ranks q f i (b ∷ bs) h e = step (is_free b) (any-ranks q f (suc i) bs (omega arith) next)
  where
    next : (j : ℕ) → f (suc i + j) ≡ get_or bs j []
    next j = let n : suc i + j ≡ i + suc j = omega arith in rw n (e (suc j))

    here : f (position (rank b i)) ≡ b
    here = let n : i + 0 ≡ i = omega arith in rw (position-rank b i (omega arith)) (rw n at (e 0))

    step : (c : Bool) → any (λ w. q (f (position w))) (ranks (suc i) bs) ≡ any q (keep (λ r. not (is_free r)) bs)
        → any (λ w. q (f (position w))) (cond c (ranks (suc i) bs) (rank b i ∷ ranks (suc i) bs))
        ≡ any q (cond (not c) (b ∷ keep (λ r. not (is_free r)) bs) (keep (λ r. not (is_free r)) bs))
    step true ih = ih
    step false ih = rw here (ap (λ c. q b || c) ih)

-- The entries of a device

module _ (bs : List Rec) (d p : ℕ) (o : octet 2 (entry bs p) ≤ 255) (l : p ≤ 255) where
  pub device_low : word 0 (entry bs p) < d → entry_rank bs p < device_rank d
  unfolding entry_rank rank bind_key unit_at unit_number device_rank number flag
  device_low h = omega arith

  pub device_high : d ≤ word 0 (entry bs p) → device_rank d ≤ entry_rank bs p
  unfolding entry_rank rank bind_key unit_at unit_number device_rank
  device_high h = omega arith

module _ (bs : List Rec) (few : length bs ≤ 255) (octets : (p : ℕ) → octet 2 (entry bs p) ≤ 255) where
  module _ (d p : ℕ) (l : p ≤ 255) where
    -- a rank is below the first of a device where its bind is of a lower device
    device-ranks : ltb (entry_rank bs p) (device_rank d) ≡ ltb (word 0 (entry bs p)) d
    device-ranks = step (ltb (word 0 (entry bs p)) d) refl
      where
        step : (b : Bool) → ltb (word 0 (entry bs p)) d ≡ b → ltb (entry_rank bs p) (device_rank d) ≡ b
        step true e = lt-ltb (entry_rank bs p) (device_rank d) (device_low bs d p (octets p) l (ltb-true (word 0 (entry bs p)) d e))
        step false e = le-ltb (entry_rank bs p) (device_rank d) (device_high bs d p (octets p) l (ltb-false (word 0 (entry bs p)) d e))

  device-below : (d p : ℕ) → entry_used bs p ≡ true → below bs (device_rank d) p ≡ ltb (bind_source (entry bs p)).0 d
  unfolding entry_used below ◌&◌
  device-below d p h =
      let a = and_parts (ltb p (length bs)) (not (is_free (entry bs p))) h in
      let l = ltb-true p (length bs) a.0 in
      rw (a.0) (device-ranks d p (omega arith))

  -- of the next device, but not of this one: of this one
  device_of_lem : (d p : ℕ) → entry_used bs p ≡ true → (not (below bs (device_rank d) p) && below bs (device_rank (suc d)) p) ≡ eqb (bind_source (entry bs p)).0 d
  device_of_lem d p h = rw (device-below d p h, device-below (suc d) p h) (step (bind_source (entry bs p)).0 d)
    where
      step : (s d : ℕ) → (not (ltb s d) && ltb s (suc d)) ≡ eqb s d
      step s d = by (ltb s d) refl (eqb s d) refl
        where
          by : (a : Bool) → ltb s d ≡ a → (b : Bool) → eqb s d ≡ b → (not a && ltb s (suc d)) ≡ b
          by true e true f = let i = ltb-true s d e in let j = eqb-true s d f in absurd (omega arith)
          by true e false f = refl
          by false e true f = let j = eqb-true s d f in lt-ltb s (suc d) (omega arith)
          by false e false f = let i = ltb-false s d e in le-ltb s (suc d) (omega (arith, eqb-false s d f))

  lower-device : (d x : ℕ) → below bs (device_rank d) x ≡ true → below bs (device_rank (suc d)) x ≡ true
  unfolding below device_rank
  lower-device d x h =
      let a = split h in
      let k = ltb-true (entry_rank bs x) (d * 2 ^ 32) a.1 in
      join (a.0) (lt-ltb (entry_rank bs x) (suc d * 2 ^ 32) (omega arith))

  -- by any test, an entry of the device's run passes where a used bind of the device does
  pub run-any : (ix : List ℕ) → ix ≡ right_index bs → (d : ℕ) (q : Rec → Bool)
      → any (λ p. q (entry bs p)) (run_of bs d ix) ≡ any (λ b. eqb (bind_source b).0 d && q b) (used bs)
  unfolding run_of ranked right_index entry
  run-any ix e d q =
      let I : Listed bs ix = rw e (right-listed bs few) in
      any-between (below bs (device_rank d)) (below bs (device_rank (suc d))) ix (leading-listed I (device_rank d)) (leading-listed I (device_rank (suc d)))
      (lower-device d) (λ p. q (entry bs p))
      ∙ rw e (any-filled passes (ordered (ranks 0 bs)) (length bs) none)
      ∙ any_alike (placed bs) (λ w. passes (position w)) (λ w. here (entry bs (position w))) each (ordered (ranks 0 bs)) (placed-in_order bs (omega arith))
      ∙ any-ordered (λ w. here (entry bs (position w))) (ranks 0 bs)
      ∙ any-ranks here (entry bs) 0 bs (omega arith) place
    where
      passes : ℕ → Bool
      passes p = not (below bs (device_rank d) p) && (below bs (device_rank (suc d)) p && q (entry bs p))

      here : Rec → Bool
      here b = eqb (bind_source b).0 d && q b

      none : passes free ≡ false
      none = rw (free_above bs few (device_rank (suc d))) (and-false (not (below bs (device_rank d) free)))

      each : (w : ℕ) → placed bs w ≡ true → passes (position w) ≡ here (entry bs (position w))
      each w h =
          and_assoc (not (below bs (device_rank d) (position w))) (below bs (device_rank (suc d)) (position w)) (q (entry bs (position w)))
          ∙ ap (λ c. c && q (entry bs (position w))) (device_of_lem d (position w) (placed-used bs w h))

      place : (j : ℕ) → entry bs (0 + j) ≡ get_or bs j []
      place j = let n : 0 + j ≡ j = omega arith in rw n

-- Whom the binds reach

-- a unit is reached by a used bind that matches
has-bound : (u : ℕ) (bs ms : List Rec) (f : Fields) → has u (bound bs ms f) ≡ any (λ b. bind_matches f b && has u (reached ms b)) (used bs)
unfolding has bound
has-bound u bs ms f =
    any-flat_map (eqb u) (reached ms) (keep (bind_matches f) (used bs)) ∙ any-keep (λ b. any (eqb u) (reached ms b)) (bind_matches f) (used bs)

-- a bind that matches is of the sender's device, or of any
module _ (f : Fields) (b : Rec) where
  matching-device : bind_matches f b ≡ true → (eqb (bind_source b).0 f.source.0 || eqb (bind_source b).0 any_device.0) ≡ true
  unfolding bind_matches from_any_device
  matching-device h = or_swap (eqb (bind_source b).0 any_device.0) (eqb (bind_source b).0 f.source.0) (split (split (split h).0).0).0
    where
      or_swap : (a b : Bool) → (a || b) ≡ true → (b || a) ≡ true
      or_swap a true h = refl
      or_swap a false h = sym (or-false a) ∙ h

  of_two : (c : Bool) → ((eqb (bind_source b).0 f.source.0 && (bind_matches f b && c)) || (eqb (bind_source b).0 any_device.0 && (bind_matches f b && c)))
      ≡ (bind_matches f b && c)
  of_two c = step (bind_matches f b) refl
    where
      both : (x y z : Bool) → (x || y) ≡ true → ((x && z) || (y && z)) ≡ z
      both true y true h = refl
      both true y false h = and-false y
      both false true z h = refl
      both false false z h = absurd (false≢true h)

      step : (m : Bool) → bind_matches f b ≡ m
          → ((eqb (bind_source b).0 f.source.0 && (m && c)) || (eqb (bind_source b).0 any_device.0 && (m && c))) ≡ (m && c)
      step true e = both (eqb (bind_source b).0 f.source.0) (eqb (bind_source b).0 any_device.0) c (matching-device e)
      step false e = rw (and-false (eqb (bind_source b).0 f.source.0)) (and-false (eqb (bind_source b).0 any_device.0))

-- the binds of the sender's device and those of any device reach whom all binds reach
pub nearby : (bs : List Rec) → length bs ≤ 255 → ((p : ℕ) → octet 2 (entry bs p) ≤ 255) → (ix : List ℕ) → ix ≡ right_index bs → (ms : List Rec) (f : Fields)
    → (u : ℕ) → has u (bound (map (entry bs) (near bs f ix)) ms f) ≡ has u (bound bs ms f)
unfolding near used
nearby bs few o ix e ms f u =
    has-bound u (map (entry bs) (near bs f ix)) ms f
    ∙ any-keep Q (λ b. not (is_free b)) (map (entry bs) (near bs f ix))
    ∙ any-map R (entry bs) (near bs f ix)
    ∙ any_append (λ p. R (entry bs p)) (run_of bs f.source.0 ix) (run_of bs any_device.0 ix)
    ∙ rw (run-any bs few o ix e f.source.0 R, run-any bs few o ix e any_device.0 R)
    (sym (any-or (λ b. eqb (bind_source b).0 f.source.0 && R b) (λ b. eqb (bind_source b).0 any_device.0 && R b) (used bs)))
    ∙ any_alike (λ b. not (is_free b)) _ Q each (used bs) (all-kept (λ b. not (is_free b)) bs)
    ∙ sym (has-bound u bs ms f)
  where
    Q : Rec → Bool
    Q b = bind_matches f b && has u (reached ms b)

    R : Rec → Bool
    R b = not (is_free b) && Q b

    each : (b : Rec) → not (is_free b) ≡ true → ((eqb (bind_source b).0 f.source.0 && R b) || (eqb (bind_source b).0 any_device.0 && R b)) ≡ Q b
    each b h = rw h (of_two f b (has u (reached ms b)))
