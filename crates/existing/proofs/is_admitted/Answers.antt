-- What `is_admitted` returns, by the definition.
use Rattle.rules.specs.Exists.{admitted}
use Rattle.existing.proofs.is_admitted.Goals as goal

pub returns : goal.returns
unfolding admitted
returns c = c.has_address.ensures
