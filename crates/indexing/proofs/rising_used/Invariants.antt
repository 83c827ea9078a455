-- The entries that are left give the answer.
use Rattle.words.specs.Basics.{take}
use Rattle.rules.specs.Types.{Binds}
use Rattle.rules.specs.Frame.{table}
use Rattle.indexing.proofs.Checking.{Rising}
use Rattle.indexing.proofs.rising_used.Given as goal

abbrev pub invariant-loop-position : goal.invariant-loop-position
invariant-loop-position l = Rising (table Binds l.binds) (take l.n l.index) l.low l.position-index
