-- What the acting parts of a message are handed, and what the number of recipients says.
use Rattle.std.specs.Prelude.{cond, List, ℕ, ◌≤◌, eqb, length, Ok}
use Rattle.words.specs.Names.{longest}
use Rattle.rules.specs.Types.{Fields, Outcome, Forwarded, Nobody}
use Rattle.rules.specs.Frame.{Lent}
use Rattle.messages.specs.Ranges.{Ranged}
use Rattle.acting.specs.Acting.{Workable}

-- a command that can be served: sound tables, fields that a header has room for, room for the longest reply
pub record Servable (L : Lent) (f : Fields) (reply : List ℕ) : Type 0 where
  pub tables : Workable L
  pub request : Ranged f
  pub room : longest ≤ length reply

-- outcome 1, or 2 where there is none
unfoldable pub outcome_of : ℕ → Outcome
outcome_of n = cond (eqb n 0) (Ok Nobody) (Ok (Forwarded n))
