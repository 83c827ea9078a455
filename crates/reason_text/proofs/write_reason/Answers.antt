-- `reason_text::write_reason` meets its contract: nothing, or one line that is the whole text.
use Rattle.std.specs.Prelude.{None}
use Rattle.words.specs.Basics.{◌≡◌, refl, rules}
use Rattle.rules.specs.Octets.{over}
use Rattle.writing.proofs.Pieces.{wrote_all}
use Rattle.reason_text.specs.Saying.{reason_text}
use Rattle.reason_text.proofs.write_reason.Goals as goal

pub returns-in_default : goal.returns-in_default
unfolding reason_text over
returns-in_default c = let n : c.args.reason ≡ None = search rules in rw n (refl, refl)

pub returns : goal.returns
returns c =
    let whole = wrote_all c.over-written.ensures.as_it_was c.over-written.ensures.begins c.write_line.ensures in
    search rules
