-- `sessions::in_session` meets its contract. A device's record begins with its address, and is no longer.
use Rattle.rules.specs.Tables.{addressed}
use Rattle.rules.specs.Sessions.{in_session}
use Rattle.sessions.proofs.in_session.Goals as goal

pub returns : goal.returns
unfolding in_session addressed
returns c = rw c.address_octets.ensures at c.has.ensures
