-- The loop of `all_used`: a record in use decides or makes no difference, as the test says, and a free one makes none.
use Rattle.words.specs.Basics.{sym, ◌∙◌}
use Rattle.rules.specs.Lists.{all, keep}
use Rattle.rules.specs.Tables.{used}
use Rattle.records.proofs.Walks.{left_more, left_hit, left_end}
use Rattle.soundness.proofs.Asking.{computed, all-free, all-fits, all-fails}
use Rattle.soundness.proofs.all_used.Goals as goal
use Rattle.soundness.proofs.all_used.Goals.{else-not-is_free-via-then-not-is_free+else-not-fits, else-not-is_free-via-else-not-is_free}

pub returns-then-not-fits : goal.returns-then-not-fits
returns-then-not-fits g c = λ q s. left_hit _ _ (c.loop-record.invariant q s) c.in-Some.ensures.steps
    (all-fails q _ _ (sym c.is_free.ensures ∙ c.if-not-is_free.true)
    (computed s (c.in-Some.ensures.steps.1.1 ∙ (c.loop-record.invariant q s).size) c.fits.ensures c.if-not-fits.true))

pub loop-record-preserved : goal.loop-record-preserved
loop-record-preserved g c = λ q s. left_more _ (c.loop-record.invariant q s) c.in-Some.ensures.steps (elim c.else-not-is_free.branch [
  | else-not-is_free-via-then-not-is_free+else-not-fits w ↦
      all-fits q _ _ (sym c.is_free.ensures ∙ w.if-not-is_free.true)
      (computed s (c.in-Some.ensures.steps.1.1 ∙ (c.loop-record.invariant q s).size) w.fits.ensures w.if-not-fits.false)
  | else-not-is_free-via-else-not-is_free w ↦ all-free q _ _ (sym c.is_free.ensures ∙ w.if-not-is_free.false)
])

pub returns : goal.returns
unfolding all used keep
returns g c = λ q s. left_end (c.loop-record.invariant q s) c.in-None.ensures.steps.1.0
