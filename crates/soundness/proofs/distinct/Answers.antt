-- The loop of `distinct`: the record split off decides or makes no difference, and at the end none is left.
use Rattle.words.specs.Basics.{sym, ◌∙◌}
use Rattle.rules.specs.Sound.{distinct}
use Rattle.rules.proofs.Records.{records-nil}
use Rattle.soundness.proofs.Asking.{distinct-fails, distinct-goes_on}
use Rattle.soundness.proofs.distinct.Goals as goal

pub returns-then-not-free_or_last : goal.returns-then-not-free_or_last
returns-then-not-free_or_last c =
    sym (distinct-fails _ _ _ c.requires.0 c.in-Some.ensures.cases c.free_or_last.ensures c.if-not-free_or_last.true) ∙ c.loop-record.invariant

pub loop-record-preserved : goal.loop-record-preserved
loop-record-preserved c =
    sym (distinct-goes_on _ _ _ c.requires.0 c.in-Some.ensures.cases c.free_or_last.ensures c.if-not-free_or_last.false) ∙ c.loop-record.invariant

pub returns : goal.returns
unfolding distinct
returns c = rw (records-nil c.args.size c.loop-record.rest.now c.in_default.ensures.cases) at c.loop-record.invariant
