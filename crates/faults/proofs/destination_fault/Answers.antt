-- What `destination_fault` returns: a bind leads to a group or to a unit.
use Rattle.words.specs.Basics.{sym, ◌∙◌}
use Rattle.std.proofs.lemmas.Result.{err_from_is_err_and}
use Rattle.rules.proofs.Lists.{ask_pass, ask_fail}
use Rattle.faults.proofs.Chain.{to_a-group, to_a_unit, first_fault, no_first_fault, same_fails, other_passes}
use Rattle.faults.proofs.destination_fault.Goals as goal

pub returns-then-not-group_exists : goal.returns-then-not-group_exists
returns-then-not-group_exists c =
    rw (to_a-group _ _ _ (sym c.to_group.ensures ∙ c.if-to_group.true), ← c.bound_group.ensures)
    (sym (ask_fail _ _ (sym c.group_exists.ensures ∙ c.if-not-group_exists.true)))

pub returns-then-to_group : goal.returns-then-to_group
returns-then-to_group c =
    rw (to_a-group _ _ _ (sym c.to_group.ensures ∙ c.if-to_group.true), ← c.bound_group.ensures)
    (sym (ask_pass _ _ (sym c.group_exists.ensures ∙ c.if-not-group_exists.false)))

pub returns-in_err-unit_fault : goal.returns-in_err-unit_fault
returns-in_err-unit_fault c =
    let told = err_from_is_err_and c.from_residual.result c.from_residual.ensures.1 in
    rw (
      told.1,
      told.2,
      to_a_unit _ _ _ (sym c.to_group.ensures ∙ c.if-to_group.false),
      ← c.bound_device.ensures,
      ← c.bind_unit.ensures,
    ) (first_fault _ c.in_err-unit_fault.ensures)

pub returns-then-bind_to-bind_from : goal.returns-then-bind_to-bind_from
returns-then-bind_to-bind_from c =
    rw (
      to_a_unit _ _ _ (sym c.to_group.ensures ∙ c.if-to_group.false),
      ← c.bound_device.ensures,
      ← c.bind_unit.ensures,
    ) (same_fails _ _ (sym c.bind_to.ensures ∙ c.if-bind_to-bind_from.true ∙ c.bind_from.ensures)
    ∙ no_first_fault _ c.in_ok-unit_fault.ensures)

pub returns : goal.returns
returns c =
    rw (
      to_a_unit _ _ _ (sym c.to_group.ensures ∙ c.if-to_group.false),
      ← c.bound_device.ensures,
      ← c.bind_unit.ensures,
    ) (other_passes _ _ (λ z. c.if-bind_to-bind_from.false (c.bind_to.ensures ∙ z ∙ sym c.bind_from.ensures))
    ∙ no_first_fault _ c.in_ok-unit_fault.ensures)
