-- `carrying::carry_outcome` meets its contract: one check after the other.
use Rattle.words.specs.Basics.{ap, not, arith}
use Rattle.carrying.proofs.Settled.{outcome-unsound, nine_times, outcome_no_room, outcome-passes}
use Rattle.carrying.proofs.carry_outcome.Goals as goal

pub returns-then-not-old_sound : goal.returns-then-not-old_sound
returns-then-not-old_sound c = outcome-unsound _ _ c.old_sound.ensures (ap not c.if-not-old_sound.true)

pub overflow_mul-old : goal.overflow_mul-old
overflow_mul-old c = omega (arith, nine_times c.args.old.now c.args.new.now c.old_sound.ensures (ap not c.if-not-old_sound.false))

pub returns-then-new-old : goal.returns-then-new-old
returns-then-new-old c = outcome_no_room _ _ c.old_sound.ensures (ap not c.if-not-old_sound.false) c.if-new-old.true

pub returns : goal.returns
returns c = outcome-passes _ _ c.old_sound.ensures (ap not c.if-not-old_sound.false) c.if-new-old.false
