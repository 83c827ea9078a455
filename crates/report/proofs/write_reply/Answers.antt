-- `report::write_reply` meets its contract. The digits and the line's end are one piece.
use Rattle.words.specs.Basics.{arith}
use Rattle.report.specs.Text.{hex_line}
use Rattle.writing.proofs.Pieces.{wrote_length, wrote_more, hex_length}
use Rattle.report.proofs.write_reply.Goals as goal

pub write_run-requires : goal.write_run-requires
write_run-requires c = omega (arith, hex_length c.args.reply.now, wrote_length c.write_hex.ensures)

pub returns : goal.returns
unfolding hex_line
returns c = wrote_more c.write_hex.ensures c.write_run.ensures
