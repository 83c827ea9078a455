-- `indexing::rising_used` meets its contract. The entries that are left give the answer.
use Rattle.words.specs.Basics.{refl, sym, ◌∙◌, arith, get_or, take}
use Rattle.rules.proofs.Lists.{split}
use Rattle.indexing.proofs.Positions.{used_inside}
use Rattle.indexing.proofs.Checking.{rising_more, rising_stop, rising_end}
use Rattle.indexing.proofs.rising_used.Goals as goal

pub returns-then-not-entry_from : goal.returns-then-not-entry_from
returns-then-not-entry_from c =
    rising_stop c.loop-position.invariant (omega arith) refl (sym c.entry_from.ensures ∙ c.if-not-entry_from.true)

pub rank_at-low-requires : goal.rank_at-low-requires
rank_at-low-requires c =
    used_inside (get_or (take c.args.n c.args.index.now) c.loop-position.position-index 0) c.args.binds.now
    (split (sym c.entry_from.ensures ∙ c.if-not-entry_from.false)).0

pub loop-position-preserved : goal.loop-position-preserved
loop-position-preserved c =
    rising_more c.loop-position.invariant (omega arith) refl (sym c.entry_from.ensures ∙ c.if-not-entry_from.false) c.rank_at-low.ensures.0

pub returns : goal.returns
returns c = rising_end c.loop-position.invariant (omega arith)
