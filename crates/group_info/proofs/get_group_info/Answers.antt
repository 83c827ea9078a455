-- `group_info::get_group_info` meets its contract: the group that was found is the one that is named.
use Rattle.rules.specs.Types.{Groups}
use Rattle.rules.specs.Layout.{size}
use Rattle.rules.proofs.Records.{length-record}
use Rattle.group_info.proofs.Told.{group_at, group-absent, named, informs, informs_not}
use Rattle.group_info.proofs.get_group_info.Goals as goal

pub record_at-requires : goal.record_at-requires
record_at-requires c = (group_at _ _ c.address_octets.ensures c.find.ensures c.in-Some.is).within

pub write_info-requires : goal.write_info-requires
write_info-requires c =
    let f = group_at _ _ c.address_octets.ensures c.find.ensures c.in-Some.is in
    rw c.record_at.ensures
    (length-record (size Groups) _ c.args.groups.now f.within, named _ _ f c.requires.0, c.requires.1, c.requires.3)

pub returns : goal.returns
returns c =
    let f = group_at _ _ c.address_octets.ensures c.find.ensures c.in-Some.is in
    rw (← c.group_named-group.ensures.0, ← informs _ _ _ f, ← c.record_at.ensures) c.write_info.ensures

pub returns-in_default : goal.returns-in_default
returns-in_default c =
    let a = group-absent _ _ c.address_octets.ensures c.find.ensures c.in_default.is in
    rw (← c.group_named-group.ensures.0, ← informs_not _ _ _ a) (rw c.invalid_argument.ensures at c.write_code.ensures)
