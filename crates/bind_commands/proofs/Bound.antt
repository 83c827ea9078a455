-- Add Bind looks for a bind that is there.
use Rattle.std.specs.List.{list_any}
use Rattle.words.specs.Basics.{◌≡◌, refl, true, false, cond, not, ◌&&◌, ◌||◌, List, [], ◌∷◌, ℕ, ◌≤◌, arith, length, take}
use Rattle.rules.specs.Lists.{any, keep}
use Rattle.rules.specs.Octets.{starts}
use Rattle.rules.specs.Tables.{Rec, is_free, used, matches}
use Rattle.rules.proofs.Records.{matches-at}

-- records that are read whole and compared
pub compared : (k : ℕ) (w : List ℕ) (t : List Rec) → length w ≤ k → list_any (λ r. not (is_free r) && matches 0 w (take k r)) t ≡ any (matches 0 w) (used t)
unfolding any used keep matches
compared k w [] h = refl
compared k w (r ∷ t) h =
    rw (compared k w t h, matches-at 0 k 0 w r (omega arith) refl)
    elim (is_free r) as (λ b. ((not b && starts w r) || any (matches 0 w) (used t)) ≡ any (matches 0 w) (cond (not b) (r ∷ used t) (used t)))
    [ true ↦ refl | false ↦ refl ]
