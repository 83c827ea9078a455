-- What `collecting::Recipients::take_members` keeps: what the records that are left give is still to be taken.
use Rattle.rules.specs.Types.{Members}
use Rattle.rules.specs.Layout.{size}
use Rattle.collecting.specs.Leaving.{members_but}
use Rattle.collecting.proofs.Gathering.{Collecting}
use Rattle.collecting.proofs.Recipients.take_members.Given as goal

abbrev pub invariant-loop-record : goal.invariant-loop-record
invariant-loop-record l =
    Collecting (members_but l.except l.group) (size Members) l.members l.initial.r.count l.initial.list l.record-iterator l.r.count l.list
