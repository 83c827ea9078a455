-- `records::is_match` meets its contract.
use mathlib.Core.Bool.{and-true, and-false}
use Rattle.words.specs.Basics.{sym, ◌∙◌}
use Rattle.rules.specs.Tables.{matches}
use Rattle.records.specs.Search.{passes}
use Rattle.records.proofs.is_match.Goals as goal

pub returns-then-same_at : goal.returns-then-same_at
unfolding passes matches
returns-then-same_at c = rw (c.is_free.ensures, sym c.same_at.ensures ∙ c.if-same_at.true, and-true)

pub returns-else-same_at : goal.returns-else-same_at
unfolding passes matches
returns-else-same_at c = rw (c.if-same_at.false, sym c.same_at.ensures ∙ c.if-same_at.false, and-false)
