-- `collecting::Recipients::take_member` meets its contract. A record that is free or of another group leaves the list.
use Rattle.std.proofs.Common.{rules}
use Rattle.units.proofs.Listing.{taken_none}
use Rattle.collecting.proofs.Collecting.{member_other, member_taken}
use Rattle.collecting.proofs.Recipients.take_member.Goals as goal

pub returns-then-not-is_member : goal.returns-then-not-is_member
returns-then-not-is_member c =
    let r = c.args.record.now in
    taken_none (member_other c.args.except c.args.group r c.is_member.ensures c.if-not-is_member.true) (λ i. search rules) c.requires.1

pub take_unless-requires : goal.take_unless-requires
take_unless-requires c =
    let r = c.args.record.now in (
      c.member_number.ensures.1,
      rw (member_taken c.args.except c.args.group r c.is_member.ensures c.if-not-is_member.false c.member_number.ensures.0)
          at c.requires.1,
    )

pub returns : goal.returns
returns c =
    let r = c.args.record.now in
    rw (member_taken c.args.except c.args.group r c.is_member.ensures c.if-not-is_member.false c.member_number.ensures.0)
    c.take_unless.ensures
