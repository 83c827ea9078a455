-- `bind_commands::remove_binds` meets its contract: what it looks for is the payload, a source's top bit ignored.
use Rattle.payloads.proofs.Parts.{part_from}
use Rattle.bind_commands.proofs.remove_binds.Goals as goal

pub returns : goal.returns
returns c = rw (← part_from c.args.part c.part_start-from.ensures c.wanted-want.ensures) c.remove.ensures
