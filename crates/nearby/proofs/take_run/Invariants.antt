-- What the binds give that the entries that are left name is still to be taken.
use Rattle.words.specs.Basics.{◌+◌}
use Rattle.rules.specs.Types.{Binds, Members}
use Rattle.rules.specs.Frame.{table}
use Rattle.collecting.specs.Leaving.{bound_but}
use Rattle.collecting.proofs.Gathering.{Gathering}
use Rattle.nearby.specs.Running.{named}
use Rattle.nearby.proofs.take_run.Given as goal

abbrev pub invariant-loop-position : goal.invariant-loop-position
invariant-loop-position l =
    Gathering (bound_but l.except l.f (table Members l.members)) (named (table Binds l.binds) l.index l.fn.run.from l.fn.run.to)
    l.initial.r.count l.initial.list
    (named (table Binds l.binds) l.index (l.fn.run.from + l.position-index) l.fn.run.to) l.r.count l.list
