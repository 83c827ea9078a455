-- The entries of an index from one place up to another: those with a lower rank stand first, up to the place that is asked for.
use Rattle.std.specs.List.{between, AllWithin}
use Rattle.std.specs.List.Sorted.{IsPartitionedBy, IsPartitionPoint}
use Rattle.std.proofs.lemmas.Grind.{get_or_default_zero}
use Rattle.std.proofs.lemmas.List.Edits.{length-between, get_or-between}
use Rattle.words.specs.Basics.{◌≡◌, refl, ap, ◌∙◌, Bool, true, false, ℕ, zero, suc, ◌+◌, ◌<◌, ◌≤◌, arith, ltb, length, get_or, List, ltb-true, ltb-false}
use Rattle.rules.specs.Tables.{Rec}
use Rattle.index_rules.specs.Walks.{below, ranked, Listed}
use Rattle.index_rules.proofs.Entries.{halving_pass, halving_fail}

module _ {bs : List Rec} {ix : List ℕ} (I : Listed bs ix) (w from to : ℕ) (h : to ≤ length ix) where
  below-at : (i d : ℕ) → i < length (between from to ix) → below bs w (get_or (between from to ix) i d) ≡ below bs w (get_or ix (from + i) 0)
  below-at i d l =
      let n = length-between ix from to h in
      ap (below bs w) (get_or-between ix from to i d (omega arith) ∙ get_or_default_zero ix (from + i) d (omega arith))

  passed : (i d : ℕ) → i < length (between from to ix) → below bs w (get_or (between from to ix) i d) ≡ true → from + i < ranked bs w ix
  passed i d l e =
      let n = length-between ix from to h in
      halving_pass I w {m = from + i} (omega arith) (below-at i d l) e

  failed : (i d : ℕ) → i < length (between from to ix) → below bs w (get_or (between from to ix) i d) ≡ false → ranked bs w ix ≤ from + i
  failed i d l e =
      let n = length-between ix from to h in
      halving_fail I w {m = from + i} (omega arith) (below-at i d l) e

  pub lower_first : IsPartitionedBy (below bs w) (between from to ix)
  lower_first i j d p q e = step (below bs w (get_or (between from to ix) i d)) refl
    where
      step : (b : Bool) → below bs w (get_or (between from to ix) i d) ≡ b → b ≡ true
      step true g = refl
      step false g = absurd (omega (arith, passed j d q e, failed i d (omega arith) g))

  no_fewer : (r : ℕ) → from ≤ ranked bs w ix → r ≤ length (between from to ix) → AllWithin (λ p. below bs w p ≡ true) (between from to ix) 0 r
      → from + r ≤ ranked bs w ix
  no_fewer zero f g c = omega arith
  no_fewer (suc r) f g c = omega (arith, passed r 0 g (c r 0 (omega arith) (omega arith)))

  pub cut_is : from ≤ ranked bs w ix → ranked bs w ix ≤ to → {r : ℕ} → r ≤ length (between from to ix)
      → IsPartitionPoint (λ p. below bs w p ≡ true) (λ p. below bs w p ≡ false) (between from to ix) r → from + r ≡ ranked bs w ix
  cut_is f t {r} g c =
      let n = length-between ix from to h in
      omega (arith, no_fewer r f g c.0, no_more (ltb r (length (between from to ix))) refl)
    where
      no_more : (b : Bool) → ltb r (length (between from to ix)) ≡ b → ranked bs w ix ≤ from + r
      no_more true e =
          let l = ltb-true r (length (between from to ix)) e in
          failed r 0 l (c.1 r 0 (omega arith) l)
      no_more false e = omega (arith, length-between ix from to h, ltb-false r (length (between from to ix)) e)
