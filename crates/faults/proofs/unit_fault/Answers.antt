-- What `unit_fault` returns: a unit that is there needs no second look.
use Rattle.words.specs.Basics.{sym, ◌∙◌}
use Rattle.rules.specs.Lists.{ask}
use Rattle.faults.specs.Parts.{unit_fault}
use Rattle.faults.proofs.Chain.{of_device_lem}
use Rattle.faults.proofs.unit_fault.Goals as goal

pub returns-then-unit_exists : goal.returns-then-unit_exists
unfolding unit_fault ask
returns-then-unit_exists c =
    let there = sym c.unit_exists.ensures ∙ c.if-unit_exists.true in
    rw (of_device_lem _ _ _ there, there)

pub returns-then-device_exists : goal.returns-then-device_exists
unfolding unit_fault ask
returns-then-device_exists c =
    rw (sym c.device_exists.ensures ∙ c.if-device_exists.true, sym c.unit_exists.ensures ∙ c.if-unit_exists.false)

pub returns : goal.returns
unfolding unit_fault ask
returns c = rw (sym c.device_exists.ensures ∙ c.if-device_exists.false)
