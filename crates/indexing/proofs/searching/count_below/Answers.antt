-- `indexing::count_below` meets its contract.
use Rattle.words.specs.Basics.{arith}
use Rattle.index_rules.proofs.Entries.{ranked-few}
use Rattle.indexing.proofs.searching.count_below.Goals as goal

pub count_between-requires : goal.count_between-requires
count_between-requires c = (c.requires, omega arith, ranked-few _ _ _, omega arith)
