-- `report::write_answer` meets its contract. What is written is the whole text.
use Rattle.words.specs.Basics.{rules}
use Rattle.writing.proofs.Pieces.{wrote_all}
use Rattle.report.proofs.write_answer.Goals as goal

pub returns : goal.returns
returns c =
    let whole = wrote_all c.over-written.ensures.as_it_was c.over-written.ensures.begins c.write_text.ensures in
    search rules
