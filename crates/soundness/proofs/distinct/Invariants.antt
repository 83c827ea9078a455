-- The records that are left decide.
use Rattle.words.specs.Basics.{◌≡◌, length}
use Rattle.rules.specs.Sound.{distinct}
use Rattle.rules.specs.Tables.{records}
use Rattle.soundness.proofs.distinct.Given as goal

abbrev pub invariant-loop-record : goal.invariant-loop-record
invariant-loop-record l = distinct l.n (records l.size l.rest) ≡ distinct l.n (records l.size l.given)

abbrev pub decreases-loop-record : goal.decreases-loop-record
decreases-loop-record l = length l.rest
