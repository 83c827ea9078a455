-- `reason_text::write_line` meets its contract: the pieces are one line.
use Rattle.words.specs.Basics.{arith}
use Rattle.writing.proofs.Decimal.{at_most-three}
use Rattle.writing.proofs.Pieces.{wrote_length, wrote_more}
use Rattle.reason_text.specs.Saying.{reason_text}
use Rattle.reason_text.proofs.Sentences.{sentence_short}
use Rattle.reason_text.proofs.write_line.Goals as goal

pub write_field-requires-2 : goal.write_field-requires-2
write_field-requires-2 c = omega (arith, at_most-three c.number.result (omega arith), wrote_length c.write_field.ensures)

pub write_run-requires : goal.write_run-requires
write_run-requires c = omega (
  arith,
  at_most-three c.number.result (omega arith),
  at_most-three c.octet.result (omega arith),
  wrote_length c.write_field.ensures,
  wrote_length c.write_field-2.ensures,
)

pub write_run-requires-2 : goal.write_run-requires-2
write_run-requires-2 c = omega (
  arith,
  at_most-three c.number.result (omega arith),
  at_most-three c.octet.result (omega arith),
  rw (← c.sentence.ensures) at (sentence_short c.args.reason),
  wrote_length c.write_field.ensures,
  wrote_length c.write_field-2.ensures,
  wrote_length c.write_run.ensures,
)

pub write_run-requires-3 : goal.write_run-requires-3
write_run-requires-3 c = omega (
  arith,
  at_most-three c.number.result (omega arith),
  at_most-three c.octet.result (omega arith),
  rw (← c.sentence.ensures) at (sentence_short c.args.reason),
  wrote_length c.write_field.ensures,
  wrote_length c.write_field-2.ensures,
  wrote_length c.write_run.ensures,
  wrote_length c.write_run-2.ensures,
)

pub returns : goal.returns
unfolding reason_text
returns c =
    rw (c.number.ensures, c.octet.ensures, c.sentence.ensures) at
    (wrote_more (wrote_more (wrote_more (wrote_more c.write_field.ensures c.write_field-2.ensures) c.write_run.ensures)
    c.write_run-2.ensures) c.write_run-3.ensures)
