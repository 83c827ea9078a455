-- What `unit_exists` returns: the concentrator is none of the table's.
use Rattle.words.specs.Basics.{sym, ◌∙◌}
use Rattle.rules.specs.Exists.{unit_exists}
use Rattle.existing.proofs.unit_exists.Goals as goal

pub returns-then-eq : goal.returns-then-eq
unfolding unit_exists
returns-then-eq c = rw (sym c.eq.ensures ∙ c.if-eq.true)

pub returns : goal.returns
unfolding unit_exists
returns c = rw (sym c.eq.ensures ∙ c.if-eq.false) c.has_unit.ensures
