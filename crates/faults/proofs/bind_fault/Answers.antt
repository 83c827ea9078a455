-- What `bind_fault` returns: the source, the unit that is none, the destination.
use Rattle.words.specs.Basics.{sym, ◌∙◌}
use Rattle.std.proofs.lemmas.Result.{err_from_is_err_and}
use Rattle.faults.proofs.Chain.{in_parts, first_fault, no_first_fault, same_fails, other_passes}
use Rattle.faults.proofs.bind_fault.Goals as goal

pub returns-in_err-source_fault : goal.returns-in_err-source_fault
returns-in_err-source_fault c =
    let told = err_from_is_err_and c.from_residual.result c.from_residual.ensures.1 in
    rw (told.1, told.2) (first_fault _ c.in_err-source_fault.ensures ∙ sym (in_parts _ _ _))

pub returns-then-bind_unit-eq-NO_UNIT : goal.returns-then-bind_unit-eq-NO_UNIT
returns-then-bind_unit-eq-NO_UNIT c =
    same_fails _ _ (sym c.bind_unit.ensures ∙ c.if-bind_unit-eq-NO_UNIT.true)
    ∙ no_first_fault _ c.in_ok-source_fault.ensures ∙ sym (in_parts _ _ _)

pub returns : goal.returns
returns c =
    c.destination_fault.ensures ∙ other_passes _ _ (λ z. c.if-bind_unit-eq-NO_UNIT.false (c.bind_unit.ensures ∙ z))
    ∙ no_first_fault _ c.in_ok-source_fault.ensures ∙ sym (in_parts _ _ _)
