-- `records::has` meets its contract: a record is found iff there is one.
use Rattle.words.specs.Basics.{sym, ap, ◌∙◌}
use Rattle.records.proofs.Search.{is_found, found_any}
use Rattle.records.proofs.has.Goals as goal

pub returns : goal.returns
returns c = sym (found_any 0 _ _ _ ∙ ap is_found (sym c.find.ensures) ∙ sym c.is_some.ensures)
