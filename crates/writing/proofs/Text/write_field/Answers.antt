-- `writing::Text::write_field` meets its contract. The word and the number are one piece.
use Rattle.words.specs.Basics.{arith}
use Rattle.writing.proofs.Pieces.{wrote_more, wrote_length}
use Rattle.writing.proofs.Text.write_field.Goals as goal

pub write_decimal-requires : goal.write_decimal-requires
write_decimal-requires c = omega (arith, wrote_length c.write_run.ensures)

pub returns : goal.returns
returns c = wrote_more c.write_run.ensures c.write_decimal.ensures
