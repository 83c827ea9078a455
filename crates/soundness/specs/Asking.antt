-- What the checks of a table ask of one record.
use denote.Ref.{Bor}
use Rattle.std.specs.Prelude.{◌≡◌, Bool, not, ◌||◌, List, ℕ, length, take}
use Rattle.std.specs.Fn.{Shared, FnReturnsAt}
use Rattle.rules.specs.Lists.{any}
use Rattle.rules.specs.Tables.{Rec, is_free, used, matches}

-- is the record free, or does it pass? "each record is free or has its fields in range"
unfoldable pub free_or : (Rec → Bool) → Rec → Bool
free_or q r = is_free r || q r

-- do the record's first n octets begin no used record of those after it?
unfoldable pub not_again : ℕ → List Rec → Rec → Bool
not_again n later r = not (any (matches 0 (take n r)) (used later))

-- of a record of k octets the closure f answers what the test q says
pub record Computes {F : Type 0} (g : Shared F (Bor Rec × Unit {0}) Bool) (f : F) (k : ℕ) (q : Rec → Bool) : Type 0 where
  pub says : (r : Rec) (b : Bool) → length r ≡ k → FnReturnsAt g f r b → b ≡ q r
