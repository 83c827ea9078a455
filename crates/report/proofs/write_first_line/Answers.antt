-- `report::write_first_line` meets its contract. Two words with their numbers and the line's end are one piece.
use Rattle.words.specs.Basics.{arith}
use Rattle.report.specs.Text.{first_line}
use Rattle.writing.proofs.Decimal.{at_most-three}
use Rattle.writing.proofs.Pieces.{wrote_length, wrote_more}
use Rattle.report.proofs.write_first_line.Goals as goal

pub write_field-requires-2 : goal.write_field-requires-2
write_field-requires-2 c = omega (arith, at_most-three c.args.number (omega arith), wrote_length c.write_field.ensures)

pub write_run-requires : goal.write_run-requires
write_run-requires c = omega (
  arith,
  at_most-three c.args.number (omega arith),
  at_most-three c.args.count (omega arith),
  wrote_length c.write_field.ensures,
  wrote_length c.write_field-2.ensures,
)

pub returns : goal.returns
unfolding first_line
returns c = wrote_more (wrote_more c.write_field.ensures c.write_field-2.ensures) c.write_run.ensures
