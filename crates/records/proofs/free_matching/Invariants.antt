-- The records before `at` are done.
use Rattle.rules.specs.Tables.{matches, clear}
use Rattle.rules.proofs.Records.{Changing}
use Rattle.records.proofs.free_matching.Given as goal

abbrev pub invariant-loop-at : goal.invariant-loop-at
invariant-loop-at l = Changing (clear (matches l.from l.want)) l.size l.fn.table l.table l.at
