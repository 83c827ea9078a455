-- Laws of a group's record that is built over zeros.
use native.Mathlib.Nat.{sub-zero, zero-sub}
use Rattle.words.specs.Basics.{◌≡◌, List, ◌∷◌, ℕ, zero, suc, ◌+◌, ◌-◌, ◌/◌, ◌%◌, ◌≤◌, arith, length, drop, replicate}
use Rattle.rules.specs.Types.{GroupAddress}
use Rattle.rules.specs.Octets.{octets, over}
use Rattle.rules.specs.Layout.{group_record, longest_name}

drop-replicate : (n m v : ℕ) → drop n (replicate m v) ≡ replicate (m - n) v
drop-replicate zero m v = rw sub-zero
drop-replicate (suc n) zero v = rw zero-sub
drop-replicate (suc n) (suc m) v =
    let e : suc m - suc n ≡ m - n = omega arith in
    rw e (drop-replicate n m v)

-- name length and name over zeros, behind the address
pub record-octets : (g : GroupAddress) (p : List ℕ) → length p ≤ 1 + longest_name → g.0 / 256 ∷ g.0 % 256 ∷ over p (replicate 14 0) ≡ group_record g p
unfolding group_record over octets
record-octets g p h = rw (drop-replicate (length p) 14 0)
