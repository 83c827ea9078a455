-- `changing::add` meets its contract: the record is stored where the code is 0x00, and only there.
use Rattle.words.specs.Basics.{sym, ◌∙◌, eqb-true, eqb-false}
use Rattle.changing.proofs.Changed.{changes, stays, found}
use Rattle.changing.proofs.add.Goals as goal

pub returns-then-eq : goal.returns-then-eq
returns-then-eq c =
    changes _ _ _ (found _ _ c.has-there.ensures c.has_room-room.ensures c.addition-code.ensures) (eqb-true _ _ (sym c.eq.ensures ∙ c.if-eq.true))
    c.store.ensures

pub returns-else-eq : goal.returns-else-eq
returns-else-eq c =
    stays _ _ (found _ _ c.has-there.ensures c.has_room-room.ensures c.addition-code.ensures) (eqb-false _ _ (sym c.eq.ensures ∙ c.if-eq.false))
