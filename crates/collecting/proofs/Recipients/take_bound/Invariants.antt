-- What `collecting::Recipients::take_bound` keeps: what the binds that are left give is still to be taken.
use Rattle.rules.specs.Types.{Binds, Members}
use Rattle.rules.specs.Layout.{size}
use Rattle.rules.specs.Frame.{table}
use Rattle.collecting.specs.Leaving.{bound_but}
use Rattle.collecting.proofs.Gathering.{Collecting}
use Rattle.collecting.proofs.Recipients.take_bound.Given as goal

abbrev pub invariant-loop-record : goal.invariant-loop-record
invariant-loop-record l =
    Collecting (bound_but l.except l.f (table Members l.members)) (size Binds) l.binds l.initial.r.count l.initial.list l.record-iterator l.r.count l.list
