-- `payloads::group_named` meets its contract. The two octets are the payload's, but for the top bit.
use Rattle.words.specs.Basics.{arith}
use Rattle.payloads.proofs.Saying.{group-octets}
use Rattle.payloads.proofs.group_named.Goals as goal

pub returns : goal.returns
returns c = (
  rw (c.join.ensures, c.low_seven.ensures) (group-octets c.args.payload.now c.requires),
  omega (arith, c.join.ensures, c.low_seven.ensures, c.type_inv.payload 1),
)
