-- `layouts::group_record` meets its contract. Name length and name over fourteen zeros, behind the address.
use Rattle.words.specs.Basics.{append-nil}
use Rattle.layouts.proofs.Built.{record-octets}
use Rattle.layouts.proofs.group_record.Goals as goal

pub returns : goal.returns
returns c = rw (append-nil, c.put.ensures, c.high.ensures, c.low.ensures) (record-octets c.args.group c.args.named.now c.requires)
