-- What `has_address` returns: an address is the first two octets of a record.
use Rattle.words.specs.Basics.{◌∙◌}
use Rattle.rules.specs.Tables.{addressed}
use Rattle.existing.proofs.has_address.Goals as goal

pub returns : goal.returns
unfolding addressed
returns c = c.has.ensures ∙ rw c.address_octets.ensures
