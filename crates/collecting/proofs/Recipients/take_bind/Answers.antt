-- `collecting::Recipients::take_bind` meets its contract. A bind that is free or matches another message leaves the list.
use Rattle.std.proofs.Common.{rules}
use Rattle.words.specs.Basics.{◌∙◌}
use Rattle.layouts.proofs.Copied.{whole-record}
use Rattle.rules.specs.Types.{Members}
use Rattle.rules.specs.Frame.{table}
use Rattle.units.proofs.Listing.{taken_none}
use Rattle.collecting.proofs.Collecting.{bind_other, bind_taken}
use Rattle.collecting.proofs.Recipients.take_bind.Goals as goal

pub returns-then-not-is_match : goal.returns-then-not-is_match
returns-then-not-is_match c =
    let ms = table Members c.args.members.now in
    let b = c.args.record.now in
    taken_none (bind_other c.args.except c.args.f ms b c.is_match.ensures c.if-not-is_match.true) (λ i. search rules) c.requires.1

pub take_reached-requires : goal.take_reached-requires
take_reached-requires c =
    let ms = table Members c.args.members.now in
    let b = c.args.record.now in
    let whole = c.bind_at.ensures ∙ whole-record _ b c.requires.0 in
    rw (bind_taken c.args.except c.args.f ms b c.is_match.ensures c.if-not-is_match.false whole) at c.requires.1

pub returns : goal.returns
returns c =
    let ms = table Members c.args.members.now in
    let b = c.args.record.now in
    let whole = c.bind_at.ensures ∙ whole-record _ b c.requires.0 in
    rw (bind_taken c.args.except c.args.f ms b c.is_match.ensures c.if-not-is_match.false whole) c.take_reached.ensures
