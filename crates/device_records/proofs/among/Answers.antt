-- What `among` returns, by the definition.
use Rattle.words.specs.Basics.{arith}
use Rattle.std.proofs.lemmas.Grind.{common_steps}
use Rattle.rules.specs.Layout.{among}
use Rattle.device_records.proofs.among.Goals as goal

pub returns : goal.returns
unfolding among
returns c = grind (arith, common_steps)
