-- `carrying::old_fits` meets its contract.
use Rattle.rules.specs.Lists.{◌&◌}
use Rattle.rules.specs.Carry.{old_fits}
use Rattle.carrying.proofs.old_fits.Goals as goal

pub returns : goal.returns
unfolding old_fits ◌&◌
returns c = rw (c.address_fits-address.ensures, c.word_at.ensures)
