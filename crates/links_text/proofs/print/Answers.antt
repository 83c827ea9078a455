-- `links_text::print` meets its contract: a short input, or a whole one.
use Rattle.links_text.proofs.Texts.{short_text_lem, short_reason}
use Rattle.links_text.proofs.print.Goals as goal

pub returns-then-input-lt-AT_MESSAGE : goal.returns-then-input-lt-AT_MESSAGE
returns-then-input-lt-AT_MESSAGE c =
    let short = c.if-input-lt-AT_MESSAGE.true in
    (rw (← short_text_lem _ short) c.write_short-length.ensures, short_reason _ short)
