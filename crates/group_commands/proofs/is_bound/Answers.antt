-- `group_commands::is_bound` meets its contract: a bind to a group is found by its flag and address.
use Rattle.group_commands.proofs.Grouped.{bound_found}
use Rattle.group_commands.proofs.is_bound.Goals as goal

pub returns : goal.returns
returns c = rw (← c.group_named.ensures.0) (bound_found _ _ c.flagged_octets-flagged.ensures c.has.ensures)
