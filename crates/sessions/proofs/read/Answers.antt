-- `sessions::read` meets its contract: 0x20 without a session, and else the entries.
use Rattle.words.specs.Basics.{refl, sym, ◌∙◌}
use Rattle.sessions.proofs.Opened.{read-refused, read-granted}
use Rattle.sessions.proofs.read.Goals as goal

pub returns-then-not-open : goal.returns-then-not-open
returns-then-not-open c =
    rw (
      ← read-refused _ _ _ _ _ (sym c.in_session-open.ensures ∙ c.if-not-open.true),
      c.write_code.ensures.0,
      c.write_code.ensures.1,
      c.no_read_session.ensures,
    )
    (refl, refl)

pub returns : goal.returns
returns c = rw (← read-granted _ _ _ _ _ (sym c.in_session-open.ensures ∙ c.if-not-open.false)) c.get_entries.ensures
