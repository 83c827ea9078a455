-- Laws of the parts of a bind, by which removals and reads look for one.
use Rattle.words.specs.Basics.{◌≡◌, refl, List, ℕ, ◌+◌, ◌≤◌, arith}
use Rattle.words.specs.declared.BindPart.TheVariants.{Whole, Source, SourceUnit, Destination, DestinationUnit}
use Rattle.rules.specs.Types.{BindPart, Binds}
use Rattle.rules.specs.Tables.{matches}
use Rattle.rules.specs.Layout.{size, part_start, part_length, part_is}

-- a part has octets, and is within the bind
pub part_fits : (q : BindPart) → (1 ≤ part_length q) × (part_start q + part_length q ≤ size Binds)
part_fits Whole = omega arith
part_fits Source = omega arith
part_fits SourceUnit = omega arith
part_fits Destination = omega arith
part_fits DestinationUnit = omega arith

-- what is looked for, from the place where it is looked for
pub part_from : (q : BindPart) {from : ℕ} {w v : List ℕ} → from ≡ part_start q → w ≡ v → matches from w ≡ part_is q v
unfolding part_is
part_from q e g = rw (e, g) refl
