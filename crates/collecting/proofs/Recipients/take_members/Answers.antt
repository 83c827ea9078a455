-- `collecting::Recipients::take_members` meets its contract. One record more is taken.
use Rattle.std.proofs.Common.{rules}
use Rattle.words.specs.Basics.{◌∙◌, arith}
use Rattle.collecting.proofs.Collecting.{members_additive, members-none}
use Rattle.collecting.proofs.Gathering.{gathering_enough, gathering_more, collecting_start, collecting_next, collecting_end}
use Rattle.collecting.proofs.Recipients.take_members.Goals as goal

pub loop-record-init : goal.loop-record-init
loop-record-init c = collecting_start (search rules) (search rules) (λ i. search rules) c.requires

pub take_member-r-requires : goal.take_member-r-requires
take_member-r-requires c = (
  c.in-Some.ensures.steps.1.1 ∙ c.loop-record.invariant.size,
  gathering_enough _ _ (members_additive _ _) (collecting_next (omega arith) c.loop-record.invariant c.in-Some.record.now _ c.in-Some.ensures.steps) c.requires,
)

pub loop-record-preserved : goal.loop-record-preserved
loop-record-preserved c = record {
  size = omega arith;
  left =
      gathering_more _ _ (members_additive _ _) (collecting_next (omega arith) c.loop-record.invariant c.in-Some.record.now _ c.in-Some.ensures.steps)
      (omega arith) c.take_member-r.ensures;
}

pub returns : goal.returns
returns c = collecting_end (omega arith) c.loop-record.invariant (members-none _ _) c.in-None.ensures.steps.1.0
