-- `report::write_recipients` meets its contract. What is left to write gives the lines.
use Rattle.words.specs.Basics.{rules, ◌∙◌, arith, ap, length}
use Rattle.writing.proofs.Pieces.{going_start, going_room, going_more, going_end}
use Rattle.report.proofs.Lines.{lines_first, next_recipient, no_recipient, lines-length}
use Rattle.report.proofs.write_recipients.Goals as goal

pub loop-recipient-init : goal.loop-recipient-init
loop-recipient-init c =
    let first = lines_first c.args.n c.args.list.now c.requires.1 in
    record {
      size = search rules;
      going = rw (c.into_iter-recipient-iterator.ensures.into_iter_gives, c.chunks_exact-recipient-items.ensures.rest, first)
          (going_start (rw lines-length c.requires.0));
    }

pub write_run-requires : goal.write_run-requires
write_run-requires c =
    let next = next_recipient _ _ c.in-Some.ensures.steps.1.0 (c.in-Some.ensures.steps.1.1 ∙ c.loop-recipient.invariant.size) in
    rw c.recipient_line.ensures (omega (arith, going_room c.loop-recipient.invariant.going, ap length next))

pub loop-recipient-preserved : goal.loop-recipient-preserved
loop-recipient-preserved c =
    let next = next_recipient _ _ c.in-Some.ensures.steps.1.0 (c.in-Some.ensures.steps.1.1 ∙ c.loop-recipient.invariant.size) in
    record {
      size = c.in-Some.ensures.steps.0 ∙ c.loop-recipient.invariant.size;
      going = going_more c.loop-recipient.invariant.going next (rw c.recipient_line.ensures at c.write_run.ensures);
    }

pub returns : goal.returns
returns c = going_end c.loop-recipient.invariant.going (no_recipient _ (omega (arith, c.in-None.ensures.steps.1.0, c.loop-recipient.invariant.size)))
