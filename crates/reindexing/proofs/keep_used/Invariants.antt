-- What was kept, and what of the rest is to be kept, is the answer.
use Rattle.rules.specs.Types.{Binds}
use Rattle.rules.specs.Frame.{table}
use Rattle.index_rules.specs.Index.{entry_used}
use Rattle.reindexing.proofs.Moving.{Keeping}
use Rattle.reindexing.proofs.keep_used.Given as goal

abbrev pub invariant-loop-i : goal.invariant-loop-i
invariant-loop-i l = Keeping (entry_used (table Binds l.binds)) l.initial.index l.index l.kept l.i
