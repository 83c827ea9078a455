-- `nearby::rank_past` meets its contract.
use Rattle.words.specs.Basics.{arith}
use Rattle.index_rules.specs.Walks.{device_rank}
use Rattle.nearby.proofs.rank_past.Goals as goal

pub returns : goal.returns
unfolding device_rank
returns c = omega arith
