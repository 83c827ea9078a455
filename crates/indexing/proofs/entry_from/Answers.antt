-- `indexing::entry_from` meets its contract. The rank is asked of a used bind alone.
use Rattle.words.specs.Basics.{sym, ◌∙◌}
use Rattle.rules.specs.Lists.{◌&◌}
use Rattle.indexing.proofs.Positions.{used_inside}
use Rattle.indexing.proofs.entry_from.Goals as goal

pub returns-then-not-is_used : goal.returns-then-not-is_used
unfolding ◌&◌
returns-then-not-is_used c = rw (sym c.is_used.ensures ∙ c.if-not-is_used.true)

pub rank_at-requires : goal.rank_at-requires
rank_at-requires c = used_inside c.args.position c.args.binds.now (sym c.is_used.ensures ∙ c.if-not-is_used.false)

pub returns : goal.returns
unfolding ◌&◌
returns c = rw (c.rank_at.ensures.0, sym c.is_used.ensures ∙ c.if-not-is_used.false)
