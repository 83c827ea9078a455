-- What `unit_at` returns: the record is tested where it stands in the table.
use Rattle.words.specs.Basics.{◌≡◌, sym, ◌∙◌, true, false, arith, take, drop}
use Rattle.rules.specs.Types.{Devices}
use Rattle.rules.specs.Layout.{size, in_set, device_units}
use Rattle.rules.specs.Tables.{addressed}
use Rattle.rules.specs.Exists.{has_unit}
use Rattle.records.specs.Search.{passes}
use Rattle.records.proofs.Search.{passes-both}
use Rattle.device_records.proofs.Placed.{unit_in_record}
use Rattle.existing.proofs.unit_at.Goals as goal

pub returns-then-this : goal.returns-then-this
unfolding has_unit addressed
returns-then-this c =
    let a = c.args in
    let r = take (size Devices) (drop a.at a.devices.now) in
    let this : passes (addressed a.device.0) r ≡ true =
    rw (c.address_octets.ensures, c.record_at-record.ensures) at (sym c.is_match-this.ensures ∙ c.if-this.true) in
    c.in_set.ensures ∙ (sym (unit_in_record a.at a.unit a.devices.now (omega arith)) ∙ (rw this at (passes-both (addressed a.device.0) (λ x. in_set a.unit (device_units x)) r)))

pub returns-else-this : goal.returns-else-this
unfolding has_unit addressed
returns-else-this c =
    let a = c.args in
    let r = take (size Devices) (drop a.at a.devices.now) in
    let other : passes (addressed a.device.0) r ≡ false =
    rw (c.address_octets.ensures, c.record_at-record.ensures) at (sym c.is_match-this.ensures ∙ c.if-this.false) in
    c.if-this.false ∙ (rw other at (passes-both (addressed a.device.0) (λ x. in_set a.unit (device_units x)) r))
