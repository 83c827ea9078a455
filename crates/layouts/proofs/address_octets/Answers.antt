-- `layouts::address_octets` meets its contract: the high octet, then the low one.
use Rattle.rules.specs.Octets.{octets}
use Rattle.layouts.proofs.address_octets.Goals as goal

pub returns : goal.returns
unfolding octets
returns c = rw (c.high.ensures, c.low.ensures)
