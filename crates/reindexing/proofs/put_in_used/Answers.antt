-- `reindexing::put_in_used` meets its contract. It goes in behind the entries of lower rank than its own.
use Rattle.words.specs.Basics.{sym, ap, ◌∙◌}
use Rattle.rules.specs.Types.{Binds}
use Rattle.rules.specs.Frame.{table}
use Rattle.index_rules.specs.Walks.{ranked, insert_at, put_in, put_in_used}
use Rattle.indexing.proofs.Positions.{used_inside}
use Rattle.reindexing.proofs.put_in_used.Goals as goal

pub returns-then-not-is_used : goal.returns-then-not-is_used
unfolding put_in_used
returns-then-not-is_used c = rw (sym c.is_used.ensures ∙ c.if-not-is_used.true)

pub rank_at-rank-requires : goal.rank_at-rank-requires
rank_at-rank-requires c = used_inside c.args.position c.args.binds.now (sym c.is_used.ensures ∙ c.if-not-is_used.false)

pub returns : goal.returns
unfolding put_in_used put_in
returns c =
    rw (sym c.is_used.ensures ∙ c.if-not-is_used.false)
    (c.insert_at.ensures
    ∙ ap (λ at. insert_at at c.args.position c.args.index.now)
    (c.count_below-at.ensures ∙ ap (λ w. ranked (table Binds c.args.binds.now) w c.args.index.now) c.rank_at-rank.ensures.0))
