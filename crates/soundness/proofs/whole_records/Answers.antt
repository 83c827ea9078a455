-- What `whole_records` returns, by the definition.
use Rattle.words.specs.Basics.{refl}
use Rattle.rules.specs.Lists.{◌&◌}
use Rattle.rules.specs.Sound.{whole_records}
use Rattle.soundness.proofs.whole_records.Goals as goal

pub returns : goal.returns
unfolding whole_records ◌&◌
returns c = refl
