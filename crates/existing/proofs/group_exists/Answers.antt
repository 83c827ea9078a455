-- What `group_exists` returns, by the definition.
use Rattle.rules.specs.Exists.{group_exists}
use Rattle.existing.proofs.group_exists.Goals as goal

pub returns : goal.returns
unfolding group_exists
returns c = c.has_address.ensures
