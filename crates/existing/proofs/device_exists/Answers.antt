-- What `device_exists` returns: the concentrator is none of the table's.
use Rattle.words.specs.Basics.{sym, ◌∙◌}
use Rattle.rules.specs.Exists.{device_exists}
use Rattle.existing.proofs.device_exists.Goals as goal

pub returns-then-eq : goal.returns-then-eq
unfolding device_exists
returns-then-eq c = c.if-eq.true ∙ rw (sym c.eq.ensures ∙ c.if-eq.true)

pub returns-else-eq : goal.returns-else-eq
unfolding device_exists
returns-else-eq c = rw (sym c.eq.ensures ∙ c.if-eq.false) c.is_admitted.ensures
