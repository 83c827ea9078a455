-- `matching::sender` meets its contract. The number of the source device and unit.
use Rattle.rules.specs.Message.{sender}
use Rattle.matching.proofs.sender.Goals as goal

pub returns : goal.returns
unfolding sender
returns c = c.unit_number.ensures.0
