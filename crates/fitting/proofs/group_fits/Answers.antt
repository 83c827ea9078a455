-- What `group_fits` returns, by the definition.
use Rattle.rules.specs.Lists.{◌&◌}
use Rattle.rules.specs.Sound.{group_fits}
use Rattle.fitting.proofs.group_fits.Goals as goal

pub returns : goal.returns
unfolding group_fits ◌&◌
returns c = rw (c.address_fits-address.ensures, c.word_at.ensures, c.padded-padding.ensures)
