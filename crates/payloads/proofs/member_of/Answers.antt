-- `payloads::member_of` meets its contract. The five octets are the payload's, but for two top bits.
use Rattle.payloads.proofs.Saying.{member_octets}
use Rattle.payloads.proofs.member_of.Goals as goal

pub returns : goal.returns
returns c = rw (c.low_seven.ensures, c.low_seven-2.ensures) (member_octets c.args.payload.now c.requires)
