-- What `has_rights` returns: address and rights are the first three octets of a record.
use Rattle.words.specs.Basics.{sym, ◌∙◌}
use Rattle.rules.specs.Exists.{has_rights}
use Rattle.existing.proofs.Rights.{rights-any}
use Rattle.existing.proofs.has_rights.Goals as goal

pub returns-then-eq : goal.returns-then-eq
unfolding has_rights
returns-then-eq c = c.if-eq.true ∙ rw (sym c.eq.ensures ∙ c.if-eq.true)

pub returns-else-eq : goal.returns-else-eq
unfolding has_rights
returns-else-eq c = rw (sym c.eq.ensures ∙ c.if-eq.false) (c.has.ensures ∙ rights-any _ _ c.address_octets.ensures)
