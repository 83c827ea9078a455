-- What `device_in_range` returns, by the definition.
use Rattle.rules.specs.Lists.{◌&◌}
use Rattle.rules.specs.Sound.{device_in_range}
use Rattle.fitting.proofs.device_in_range.Goals as goal

pub returns : goal.returns
unfolding device_in_range ◌&◌
returns c = rw (c.address_fits-fits.ensures, c.in_set-first.ensures, c.in_set-last.ensures)
