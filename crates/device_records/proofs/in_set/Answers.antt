-- What `in_set` returns: the bit that is tested is the unit's.
use Rattle.words.specs.Basics.{get_or-drop}
use Rattle.rules.specs.Layout.{in_set}
use Rattle.device_records.proofs.in_set.Goals as goal

pub returns : goal.returns
unfolding in_set
returns c = rw (c.bit.ensures, get_or-drop)
