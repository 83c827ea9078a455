-- `group_commands::free_group` meets its contract: three removals, each by the octets of the address.
use Rattle.group_commands.proofs.Grouped.{address_freed, binds_freed}
use Rattle.group_commands.proofs.free_group.Goals as goal

pub returns : goal.returns
returns c =
    let address = c.address_octets-address.ensures in (
      binds_freed _ _ c.flagged_octets-flagged.ensures c.free_matching.ensures,
      address_freed _ _ _ address c.free_matching-2.ensures,
      address_freed _ _ _ address c.free_matching-3.ensures,
    )
