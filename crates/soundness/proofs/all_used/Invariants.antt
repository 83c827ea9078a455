-- The records that are left decide.
use Rattle.words.specs.Basics.{Bool}
use Rattle.rules.specs.Lists.{all}
use Rattle.rules.specs.Tables.{Rec, records, used}
use Rattle.records.proofs.Walks.{Left}
use Rattle.soundness.specs.Asking.{Computes}
use Rattle.soundness.proofs.all_used.Given as goal

abbrev pub invariant-loop-record : goal.invariant-loop-record
invariant-loop-record g l = (q : Rec → Bool) → Computes g.F.Fn l.fits l.size q
    → Left (λ t. all q (used t)) l.size (all q (used (records l.size l.table))) l.record-iterator
