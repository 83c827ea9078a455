-- `payloads::wanted` meets its contract. The payload is put first, then its first octet as the part wants it.
use Rattle.words.specs.Basics.{◌≤◌, arith, length}
use Rattle.payloads.proofs.Parts.{part_fits}
use Rattle.payloads.proofs.Saying.{first_set}
use Rattle.payloads.proofs.wanted.Goals as goal

pub returns : goal.returns
returns c =
    let sized : 1 ≤ length c.args.payload.now = omega (arith, c.requires, part_fits c.args.part) in
    rw c.put.ensures (first_set c.args.part c.args.payload.now _ sized c.first_wanted.ensures)
