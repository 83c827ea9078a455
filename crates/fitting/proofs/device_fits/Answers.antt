-- What `device_fits` returns, by the definition.
use Rattle.rules.specs.Lists.{◌&◌}
use Rattle.rules.specs.Sound.{device_fits}
use Rattle.fitting.proofs.device_fits.Goals as goal

pub returns : goal.returns
unfolding device_fits ◌&◌
returns c = rw (c.device_in_range-in_range.ensures, c.word_at.ensures)
