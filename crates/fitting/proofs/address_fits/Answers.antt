-- What `address_fits` returns, by the definition.
use Rattle.std.proofs.Common.{arith}
use Rattle.std.proofs.lemmas.Grind.{common_steps}
use Rattle.rules.specs.Lists.{◌&◌}
use Rattle.rules.specs.Sound.{address_fits}
use Rattle.fitting.proofs.address_fits.Goals as goal

pub returns : goal.returns
unfolding address_fits ◌&◌
returns c = grind (arith, common_steps)
