-- `report::write_text` meets its contract. The first line and what stands behind it are the whole text.
use Rattle.std.specs.Prelude.{Ok}
use Rattle.words.specs.Basics.{◌≡◌, arith, length-take-le, sym, append-nil, rules}
use Rattle.rules.specs.Types.{Done, Forwarded, Nobody}
use Rattle.writing.proofs.Pieces.{wrote_length, wrote_more}
use Rattle.report.specs.Text.{recipient_lines, value_if, answer_text}
use Rattle.report.proofs.Lines.{first_line-end, refused_text}
use Rattle.report.proofs.write_text.Goals as goal

pub slice_bounds-write_reply-end : goal.slice_bounds-write_reply-end
unfolding value_if
slice_bounds-write_reply-end c =
    let o : c.args.outcome ≡ Ok (Done c.in-Ok-Done.n) = search rules in
    sym (length-take-le c.in-Ok-Done.n c.args.reply.now (rw o at c.requires.lengths.reply))

pub write_reply-requires : goal.write_reply-requires
unfolding value_if
write_reply-requires c =
    let o : c.args.outcome ≡ Ok (Done c.in-Ok-Done.n) = search rules in
    omega (
      arith,
      rw o at c.requires.lengths.longest,
      length-take-le c.in-Ok-Done.n c.args.reply.now (rw o at c.requires.lengths.reply),
      first_line-end c.write_first_line.ensures (omega arith) (omega arith),
      wrote_length c.write_first_line.ensures,
    )

pub write_recipients-requires : goal.write_recipients-requires
unfolding value_if
write_recipients-requires c =
    let o : c.args.outcome ≡ Ok (Forwarded c.in-Ok-Forwarded.n) = search rules in
    let first = first_line-end c.write_first_line.ensures (omega arith) (omega arith) in (
      omega (arith, rw o at c.requires.lengths.most, first, wrote_length c.write_first_line.ensures),
      rw o at c.requires.lengths.list,
    )

pub returns-in-Ok-Done : goal.returns-in-Ok-Done
unfolding answer_text value_if
returns-in-Ok-Done c =
    let o : c.args.outcome ≡ Ok (Done c.in-Ok-Done.n) = search rules in
    rw o (wrote_more (rw (c.number_of.ensures, c.count_of.ensures, o) at c.write_first_line.ensures) c.write_reply.ensures)

pub returns-in-Ok-Forwarded : goal.returns-in-Ok-Forwarded
unfolding answer_text value_if
returns-in-Ok-Forwarded c =
    let o : c.args.outcome ≡ Ok (Forwarded c.in-Ok-Forwarded.n) = search rules in
    rw o (wrote_more (rw (c.number_of.ensures, c.count_of.ensures, o) at c.write_first_line.ensures) c.write_recipients.ensures)

pub returns-in-Ok-Nobody : goal.returns-in-Ok-Nobody
unfolding answer_text value_if recipient_lines
returns-in-Ok-Nobody c =
    let o : c.args.outcome ≡ Ok Nobody = search rules in
    rw (o, append-nil) (rw (c.number_of.ensures, c.count_of.ensures, o) at c.write_first_line.ensures)

pub returns-in-Err : goal.returns-in-Err
returns-in-Err c = rw (c.in-Err.is, refused_text) (rw (c.number_of.ensures, c.count_of.ensures, c.in-Err.is) at c.write_first_line.ensures)
