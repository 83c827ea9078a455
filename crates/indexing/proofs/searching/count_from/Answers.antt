-- `indexing::count_from` meets its contract: the entry that is looked at first tells on which side of it the number is.
use Rattle.words.specs.Basics.{arith}
use Rattle.rules.specs.Types.{Binds}
use Rattle.rules.specs.Frame.{table}
use Rattle.index_rules.proofs.Entries.{ranked-few, halving_pass, halving_fail}
use Rattle.indexing.proofs.searching.count_from.Goals as goal

pub overflow_sub-all : goal.overflow_sub-all
overflow_sub-all c = let few = ranked-few (table Binds c.args.binds.now) c.args.rank c.args.index.now in omega (arith, c.requires.1)

pub count_between-requires : goal.count_between-requires
count_between-requires c = (c.requires.0, c.requires.1, ranked-few _ _ _, omega arith)

pub count_between-requires-then-is_below : goal.count_between-requires-then-is_below
count_between-requires-then-is_below c =
    let few = ranked-few (table Binds c.args.binds.now) c.args.rank c.args.index.now in
    let h = halving_pass c.requires.0 c.args.rank (omega (arith, c.requires.1)) c.is_below.ensures c.if-is_below.true in
    (c.requires.0, omega (arith, h), few, omega arith)

pub count_between-requires-2 : goal.count_between-requires-2
count_between-requires-2 c =
    let few = ranked-few (table Binds c.args.binds.now) c.args.rank c.args.index.now in
    let h = halving_fail c.requires.0 c.args.rank (omega (arith, c.requires.1)) c.is_below.ensures c.if-is_below.false in
    (c.requires.0, c.requires.1, h, omega (arith, c.requires.1))
