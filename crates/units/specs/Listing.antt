-- Recipients in a lent list (document 01, Outcomes and Recipients): 3 octets each from its front on, and how many there are.
use Rattle.std.specs.Prelude.{◌≡◌, cond, List, [], ◌∷◌, ◌++◌, ℕ, zero, suc, ◌*◌, ◌≤◌, length, drop}
use Rattle.rules.specs.Lists.{has}
use Rattle.rules.specs.Octets.{over}
use Rattle.rules.specs.Units.{unit_at, unit_octets}

-- the first n units in the octets l
unfoldable pub units : ℕ → List ℕ → List ℕ
units zero l = []
units (suc n) l = unit_at 0 l ∷ units n (drop 3 l)

-- "Each unit stands once": u at the end, unless it is there
unfoldable pub added : ℕ → List ℕ → List ℕ
added u us = cond (has u us) us (us ++ u ∷ [])

-- one after the other
unfoldable pub added_all : List ℕ → List ℕ → List ℕ
added_all [] us = us
added_all (v ∷ vs) us = added_all vs (added v us)

-- the list `after` is `before` with the n recipients us written over it: octets past them stay
pub record Listing (before after : List ℕ) (n : ℕ) (us : List ℕ) : Type 0 where
  pub count : n ≡ length us
  pub octets : after ≡ over (unit_octets us) before

-- to the first n units of `before` the units vs were added: there are m now, in `after`
pub record Taken (vs : List ℕ) (n : ℕ) (before : List ℕ) (m : ℕ) (after : List ℕ) : Type 0 where
  pub count : m ≡ length (added_all vs (units n before))
  pub octets : after ≡ over (unit_octets (added_all vs (units n before))) before

-- .. for which the list has enough octets
pub record Enough (vs : List ℕ) (n : ℕ) (l : List ℕ) : Type 0 where
  pub fits : 3 * length (added_all vs (units n l)) ≤ length l
