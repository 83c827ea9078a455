-- `layouts::unit_number` meets its contract. The number is the definition's.
use Rattle.std.proofs.Common.{arith}
use Rattle.std.proofs.lemmas.Grind.{common_steps}
use Rattle.rules.specs.Units.{unit_number}
use Rattle.layouts.proofs.unit_number.Goals as goal

pub returns : goal.returns
unfolding unit_number
returns c = grind (arith, common_steps)
