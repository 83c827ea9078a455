-- `reindexing::keep_used` meets its contract. What was kept, and what of the rest is to be kept, is the answer.
use Rattle.words.specs.Basics.{arith}
use Rattle.index_rules.specs.Walks.{used_only}
use Rattle.reindexing.proofs.Moving.{keeping_more, keeping_less, keeping_end}
use Rattle.reindexing.proofs.keep_used.Goals as goal
use Rattle.reindexing.proofs.keep_used.Goals.{then-is_used, else-is_used}

pub loop-i-preserved : goal.loop-i-preserved
loop-i-preserved c =
    elim c.if-is_used.branch [
      | then-is_used w ↦ rw (w.kept-is, w.index-is) (keeping_more c.loop-i.invariant (omega arith) c.is_used.ensures w.if-is_used.true)
      | else-is_used w ↦ rw (w.kept-is, w.index-is) (keeping_less c.loop-i.invariant (omega arith) c.is_used.ensures w.if-is_used.false)
    ]

pub returns : goal.returns
unfolding used_only
returns c = rw c.fill_at.ensures (keeping_end c.loop-i.invariant (omega arith))
