-- `links_text::answer` meets its contract: the tables are those of the input, and the text is that of the answer.
use Rattle.words.specs.Basics.{arith}
use Rattle.messages.proofs.Replies.{rest_is}
use Rattle.lent.specs.Held.{held}
use Rattle.links_text.specs.Printing.{all_tables}
use Rattle.links_text.proofs.Bounds.{within}
use Rattle.links_text.proofs.Texts.{answer_text_lem}
use Rattle.links_text.proofs.answer.Goals as goal

pub write_answer-length-requires : goal.write_answer-length-requires
write_answer-length-requires c =
    let w = within _ _ _ _ c.message-told.result _ _ _ c.message-told.ensures.message in
    rw (c.outcome_of.ensures (held c.message-told.new.tables) c.message-told.new.reply c.message-told.new.list)
    (record {
      reply = w.reply;
      longest = omega (arith, w.reply, c.message-told.auto.reply);
      list = w.list;
      most = omega (arith, w.list, c.message-told.auto.list);
      text = c.requires.1;
    })

pub returns : goal.returns
returns c =
    let told = answer_text_lem c.args.input.now _ _ _ _ _ c.message-told.result _ _ _ c.requires.0 c.put.ensures c.put-2.ensures c.put-3.ensures c.put-4.ensures
    (rest_is all_tables c.args.input.now) (c.outcome_of.ensures _ _ _) (c.reason_of.ensures _ _ _) c.message-told.ensures.message in
    (rw (← told.0) c.write_answer-length.ensures, told.1)
