-- `report::write_short` meets its contract. The one piece is the whole text.
use Rattle.words.specs.Basics.{rules}
use Rattle.writing.proofs.Pieces.{wrote_all}
use Rattle.report.proofs.write_short.Goals as goal

pub returns : goal.returns
returns c =
    let whole = wrote_all c.over-written.ensures.as_it_was c.over-written.ensures.begins c.write_run.ensures in
    search rules
