-- `layouts::unit_at` meets its contract. The device's word, then the unit's octet.
use Rattle.words.specs.Basics.{◌∙◌}
use Rattle.rules.specs.Units.{unit_at}
use Rattle.layouts.proofs.unit_at.Goals as goal

pub returns : goal.returns
unfolding unit_at
returns c = (c.unit_number.ensures.0 ∙ rw c.word_at.ensures, c.unit_number.ensures.1)
