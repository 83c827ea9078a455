-- What `bind_fits` returns: no top bit, and no fault.
use Rattle.rules.specs.Lists.{◌&◌}
use Rattle.rules.specs.Octets.{flag}
use Rattle.rules.specs.Sound.{bind_fits}
use Rattle.faults.proofs.Chain.{ok-faultless}
use Rattle.faults.proofs.bind_fits.Goals as goal

pub returns : goal.returns
unfolding bind_fits flag ◌&◌
returns c = rw (c.flag-top.ensures, c.bind_source-address.ensures, c.is_ok.ensures.value, ok-faultless c.bind_fault.result, c.bind_fault.ensures)
