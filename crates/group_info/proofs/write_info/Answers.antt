-- `group_info::write_info` meets its contract: the members behind, then what stands before them.
use borrow.Rule.Slice.PartMut.{same_len_mid}
use Rattle.words.specs.Basics.{◌∙◌, ◌+◌, arith}
use Rattle.rules.specs.Layout.{name_length}
use Rattle.messages.proofs.Replies.{rest_is}
use Rattle.group_info.proofs.Informed.{few-listed}
use Rattle.group_info.proofs.Pieces.{info-counted, info-written}
use Rattle.group_info.proofs.write_info.Goals as goal

pub write_head-requires : goal.write_head-requires
write_head-requires c = (
  c.requires.0,
  c.requires.1,
  few-listed c.args.group c.args.members.now c.members_in_order-count.ensures.count c.requires.2,
  rw (same_len_mid (name_length c.args.record.now + 2 + 2) _ c.args.out.now _ c.members_in_order-count.auto.list) (omega (arith, c.requires.3)),
)

pub overflow_mul-result : goal.overflow_mul-result
overflow_mul-result c = omega (arith, few-listed c.args.group c.args.members.now c.members_in_order-count.ensures.count c.requires.2)

pub overflow_add-result : goal.overflow_add-result
overflow_add-result c =
    omega (arith, c.requires.1, few-listed c.args.group c.args.members.now c.members_in_order-count.ensures.count c.requires.2)

pub returns : goal.returns
returns c =
    let r = c.args.record.now in
    let old = c.args.out.now in
    let members = c.args.members.now in
    let part = rw (rest_is (name_length r + 2 + 2) old) at c.members_in_order-count.ensures.octets in (
      info-counted r c.args.group members c.requires.0 c.requires.1 c.members_in_order-count.ensures.count,
      c.write_head.ensures
          ∙ info-written r c.args.group members old _ c.requires.0 c.requires.1 (omega (arith, c.requires.1, c.requires.3))
          c.members_in_order-count.ensures.count part,
    )
