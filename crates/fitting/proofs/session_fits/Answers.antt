-- What `session_fits` returns: the device is read from the record.
use Rattle.rules.specs.Sound.{session_fits}
use Rattle.fitting.proofs.session_fits.Goals as goal

pub returns : goal.returns
unfolding session_fits
returns c = rw (← c.word_at.ensures) c.device_exists.ensures
