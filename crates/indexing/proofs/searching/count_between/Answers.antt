-- `indexing::count_between` meets its contract. The entries with a lower rank stand first.
use Rattle.std.proofs.Common.{rules, tests}
use Rattle.std.proofs.lemmas.List.Sorted.{IsPartitionPoint-from_clause}
use Rattle.rules.specs.Types.{Binds}
use Rattle.rules.specs.Frame.{table}
use Rattle.index_rules.specs.Walks.{below}
use Rattle.indexing.proofs.Halving.{lower_first, cut_is}
use Rattle.indexing.proofs.searching.count_between.Goals as goal

pub returns : goal.returns
returns c =
    cut_is c.requires.0 c.args.rank c.args.from c.args.to c.requires.3 c.requires.1 c.requires.2 c.partition_point.ensures.bound
    (IsPartitionPoint-from_clause (below (table Binds c.args.binds.now) c.args.rank) _ _ c.partition_point.ensures.partitioned
    (lower_first c.requires.0 c.args.rank c.args.from c.args.to c.requires.3) (λ a r f' k. search (rules, tests)))
