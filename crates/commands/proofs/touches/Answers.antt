-- `commands::touches` meets its contract: each arm knows its command. This is the arm of the Remove commands; the others are found.
use Rattle.commands.specs.Perform.{touches}
use Rattle.commands.proofs.touches.Goals as goal

pub returns-in-RemoveBinds : goal.returns-in-RemoveBinds
unfolding touches
returns-in-RemoveBinds c = rw c.in-RemoveBinds.is
