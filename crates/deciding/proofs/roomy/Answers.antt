-- `deciding::roomy` meets its contract: the larger of two, either way round.
use Rattle.std.proofs.Math.Nat.{max_comm}
use Rattle.rules.specs.Lists.{◌&◌}
use Rattle.rules.specs.Calls.{roomy}
use Rattle.deciding.proofs.roomy.Goals as goal

pub returns : goal.returns
unfolding roomy ◌&◌
returns c = rw (c.max.ensures, max_comm _ 1)
