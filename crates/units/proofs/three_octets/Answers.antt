-- `units::three_octets` meets its contract. The octets are the definition's.
use Rattle.words.specs.Basics.{refl}
use Rattle.rules.specs.Units.{three_octets}
use Rattle.units.proofs.three_octets.Goals as goal

pub returns : goal.returns
unfolding three_octets
returns c = refl
