-- The loop of `report::write_recipients`: what is left to write gives the lines.
use Rattle.words.specs.Basics.{◌≡◌}
use Rattle.std.specs.Slice.Iter.{chunks_exact_rest, chunks_exact_size}
use Rattle.writing.proofs.Pieces.{Going}
use Rattle.report.specs.Text.{recipient_lines}
use Rattle.report.proofs.Lines.{lines}
use Rattle.report.proofs.write_recipients.Given as goal

abbrev pub invariant-loop-recipient : goal.invariant-loop-recipient
invariant-loop-recipient l = record {
  size : chunks_exact_size l.recipient-iterator ≡ 3;
  going : Going (recipient_lines l.n l.list) l.fn.text (lines (chunks_exact_rest l.recipient-iterator)) l.text;
}
