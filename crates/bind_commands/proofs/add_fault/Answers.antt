-- `bind_commands::add_fault` meets its contract: the length before the fields, the presence behind them.
use Rattle.std.proofs.lemmas.Result.{err_from_is_err_and}
use Rattle.rules.specs.Lists.{ask}
use Rattle.bind_commands.proofs.Faulty.{wrong-length, wrong-field, behind-fields}
use Rattle.bind_commands.proofs.add_fault.Goals as goal

pub returns-then-payload-ne-BIND : goal.returns-then-payload-ne-BIND
returns-then-payload-ne-BIND c = wrong-length _ _ _ _ c.if-payload-ne-BIND.true

pub returns-in_err-bind_fault : goal.returns-in_err-bind_fault
returns-in_err-bind_fault c =
    let p = err_from_is_err_and c.from_residual.result c.from_residual.ensures.1 in
    rw (p.1, p.2) (wrong-field _ _ _ _ c.bind_of-bind.ensures c.if-payload-ne-BIND.false c.in_err-bind_fault.ensures)

pub returns-then-bind_there : goal.returns-then-bind_there
unfolding ask
returns-then-bind_there c =
    rw c.if-bind_there.true at (behind-fields _ _ _ _ c.bind_of-bind.ensures c.if-payload-ne-BIND.false c.in_ok-bind_fault.ensures c.bind_there.ensures)

pub returns : goal.returns
unfolding ask
returns c =
    rw c.if-bind_there.false at (behind-fields _ _ _ _ c.bind_of-bind.ensures c.if-payload-ne-BIND.false c.in_ok-bind_fault.ensures c.bind_there.ensures)
