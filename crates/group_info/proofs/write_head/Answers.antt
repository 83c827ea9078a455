-- `group_info::write_head` meets its contract: three runs, one behind the other.
use Rattle.group_info.proofs.Pieces.{head_written}
use Rattle.group_info.proofs.write_head.Goals as goal

pub returns : goal.returns
returns c =
    rw (c.write_at-3.ensures, c.address_octets.ensures, c.write_at-2.ensures, c.write_at.ensures)
    (head_written c.args.record.now c.args.out.now c.args.count c.requires.0 c.requires.1 c.requires.3)
