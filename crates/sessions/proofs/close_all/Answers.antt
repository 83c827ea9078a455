-- `sessions::close_all` meets its contract. Nothing is looked for, and every record has it.
use Rattle.rules.specs.Tables.{matches}
use Rattle.sessions.proofs.close_all.Goals as goal

pub returns-then-changed : goal.returns-then-changed
unfolding matches
returns-then-changed c = rw c.if-changed.true c.free_matching.ensures
