-- `sessions::release` meets its contract: all are closed, or the device's own.
use Rattle.rules.specs.Tables.{addressed}
use Rattle.sessions.proofs.release.Goals as goal

pub returns-else-named : goal.returns-else-named
unfolding addressed
returns-else-named c = rw c.if-named.false (rw c.address_octets.ensures at c.free_matching.ensures)
