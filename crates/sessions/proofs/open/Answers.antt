-- `sessions::open` meets its contract: who has one keeps it, any other takes the first free record.
use Rattle.words.specs.Basics.{sym, ◌∙◌}
use Rattle.sessions.proofs.Opened.{has_one, none_free, one_more}
use Rattle.sessions.proofs.open.Goals as goal

pub returns-then-in_session : goal.returns-then-in_session
returns-then-in_session c = rw c.ok.ensures (has_one _ _ (sym c.in_session.ensures ∙ c.if-in_session.true))

pub returns-then-not-has_room : goal.returns-then-not-has_room
returns-then-not-has_room c =
    rw c.not_enough_resources.ensures
    (none_free _ _ (sym c.in_session.ensures ∙ c.if-in_session.false) (sym c.has_room.ensures ∙ c.if-not-has_room.true))

pub returns : goal.returns
returns c =
    rw c.ok-2.ensures
    (one_more _ _ (sym c.in_session.ensures ∙ c.if-in_session.false) (sym c.has_room.ensures ∙ c.if-not-has_room.false)
    c.address_octets.ensures c.store.ensures)
