-- What `source_fault` returns: any device, any unit of a device, or a unit.
use Rattle.words.specs.Basics.{sym, ◌∙◌}
use Rattle.rules.specs.Lists.{ask}
use Rattle.rules.proofs.Lists.{ask_pass, ask_fail}
use Rattle.faults.specs.Parts.{source_fault}
use Rattle.faults.proofs.Chain.{from_unit, from_device_lem}
use Rattle.faults.proofs.source_fault.Goals as goal

pub returns-then-from_any_device : goal.returns-then-from_any_device
unfolding source_fault ask
returns-then-from_any_device c = rw (sym c.from_any_device.ensures ∙ c.if-from_any_device.true)

pub returns-then-not-from_any_unit : goal.returns-then-not-from_any_unit
returns-then-not-from_any_unit c =
    rw (
      from_unit _ _ (sym c.from_any_device.ensures ∙ c.if-from_any_device.false)
          (sym c.from_any_unit.ensures ∙ c.if-not-from_any_unit.true),
      ← c.bind_source-source.ensures,
      ← c.bind_source_unit-unit.ensures,
    ) c.unit_fault.ensures

pub returns-then-not-device_exists : goal.returns-then-not-device_exists
returns-then-not-device_exists c =
    rw (
      from_device_lem _ _ (sym c.from_any_device.ensures ∙ c.if-from_any_device.false)
          (sym c.from_any_unit.ensures ∙ c.if-not-from_any_unit.false),
      ← c.bind_source-source.ensures,
    ) (sym (ask_fail _ _ (sym c.device_exists.ensures ∙ c.if-not-device_exists.true)))

pub returns : goal.returns
returns c =
    rw (
      from_device_lem _ _ (sym c.from_any_device.ensures ∙ c.if-from_any_device.false)
          (sym c.from_any_unit.ensures ∙ c.if-not-from_any_unit.false),
      ← c.bind_source-source.ensures,
    ) (sym (ask_pass _ _ (sym c.device_exists.ensures ∙ c.if-not-device_exists.false)))
