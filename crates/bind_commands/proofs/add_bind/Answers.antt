-- `bind_commands::add_bind` meets its contract: the bind is stored where a record is free, and only there.
use Rattle.words.specs.Basics.{sym, ap, ◌∙◌, arith}
use Rattle.rules.specs.Types.{Code}
use Rattle.rules.proofs.Lists.{ask_pass, ask_fail}
use Rattle.changing.proofs.Changed.{changes, stays}
use Rattle.bind_commands.proofs.add_bind.Goals as goal

pub returns-then-not-has_room : goal.returns-then-not-has_room
returns-then-not-has_room c =
    let e = c.not_enough_resources.ensures in
    stays _ _ (e ∙ sym (ask_fail _ _ (sym c.has_room.ensures ∙ c.if-not-has_room.true))) (λ z. omega (arith, ap (λ (x : Code). x.0) e, z))

pub returns : goal.returns
returns c =
    let e = c.ok.ensures in
    changes _ _ _ (e ∙ sym (ask_pass _ _ (sym c.has_room.ensures ∙ c.if-not-has_room.false))) (ap (λ (x : Code). x.0) e)
    (c.store_bind.ensures ∙ rw c.bind_of-bind.ensures)
