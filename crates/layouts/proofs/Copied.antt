-- Laws of a record that is copied whole.
use Rattle.words.specs.Basics.{◌≡◌, ℕ, arith, length, take, take_all}
use Rattle.rules.specs.Tables.{Rec}

-- a record of k octets is its first k octets
pub whole-record : (k : ℕ) (r : Rec) → length r ≡ k → take k r ≡ r
whole-record k r h = take_all k r (omega arith)
