-- `nearby::first_rank` meets its contract.
use Rattle.words.specs.Basics.{arith}
use Rattle.index_rules.specs.Walks.{device_rank}
use Rattle.nearby.proofs.first_rank.Goals as goal

pub returns : goal.returns
unfolding device_rank
returns c = omega arith
