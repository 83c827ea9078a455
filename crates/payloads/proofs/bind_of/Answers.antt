-- `payloads::bind_of` meets its contract. The eight octets are the payload's, but for the first one's top bit.
use Rattle.payloads.proofs.Saying.{bind-octets}
use Rattle.payloads.proofs.bind_of.Goals as goal

pub returns : goal.returns
returns c = rw c.low_seven.ensures (bind-octets c.args.payload.now c.requires)
