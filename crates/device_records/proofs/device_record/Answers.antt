-- What `device_record` returns: the units behind four octets of 0, then the first three.
use Rattle.words.specs.Basics.{arith}
use Rattle.device_records.proofs.Placed.{record-placed}
use Rattle.device_records.proofs.device_record.Goals as goal

pub returns : goal.returns
returns c =
    record-placed c.args.address c.args.rights c.args.units.now (omega arith) c.write_at.ensures c.high.ensures c.low.ensures
