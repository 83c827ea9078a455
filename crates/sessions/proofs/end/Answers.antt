-- `sessions::end` meets its contract: the record of who has one becomes free.
use Rattle.words.specs.Basics.{sym, ap, ◌∙◌, arith}
use Rattle.words.specs.Names.{unknown_reason}
use Rattle.rules.specs.Types.{Code}
use Rattle.rules.specs.Tables.{addressed}
use Rattle.changing.proofs.Changed.{changes, stays}
use Rattle.sessions.proofs.Opened.{in_one, in_none}
use Rattle.sessions.proofs.end.Goals as goal

pub returns-then-not-in_session : goal.returns-then-not-in_session
returns-then-not-in_session c =
    let u = c.unknown_reason.ensures in
    stays _ _ (u ∙ in_none unknown_reason _ _ (sym c.in_session.ensures ∙ c.if-not-in_session.true))
    (λ z. omega (arith, ap (λ (d : Code). d.0) u, z))

pub returns : goal.returns
unfolding addressed
returns c =
    changes _ _ _ (c.ok.ensures ∙ in_one unknown_reason _ _ (sym c.in_session.ensures ∙ c.if-not-in_session.false))
    (ap (λ (d : Code). d.0) c.ok.ensures) (rw c.address_octets.ensures at c.free_matching.ensures)
