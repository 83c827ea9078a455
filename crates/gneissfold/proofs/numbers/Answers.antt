-- `gneissfold::numbers` meets its contract: the twelve fields in order, the octets among them widened.
use Rattle.gneissfold.specs.Numbers.{twelve}
use Rattle.gneissfold.proofs.numbers.Goals as goal

pub returns : goal.returns
unfolding twelve
returns c = cc
