-- A command's own part: the payload of its reply over the part of the lent reply behind the header, and the tables after it.
use Rattle.std.specs.Prelude.{◌≡◌, true, List, ℕ, length}
use Rattle.rules.specs.Types.{DeviceAddress, Code, Command}
use Rattle.rules.specs.Octets.{over}
use Rattle.rules.specs.Frame.{Lent, tables, Effect, nothing, changed}
use Rattle.rules.specs.Sound.{sound}
use Rattle.rules.specs.Commands.{row, on_ok, reply_payload}

-- what commands may count on: tables that are sound
abbrev pub Workable : Lent → Type 0
Workable L = sound L ≡ true

-- how many octets were written, the tables, and the part of the reply
pub record Performed : Type 0 where
  pub length : ℕ
  pub tables : Lent
  pub out : List ℕ

abbrev pub performed : ℕ → Lent → List ℕ → Performed
performed n L out = record { length = n; tables = L; out = out }

-- a command with the payload p and this code, which changes the tables by this effect
unfoldable pub performing : Lent → Effect → Command → List ℕ → Code → List ℕ → Performed
performing L x k p c out =
    let q : List ℕ = reply_payload (tables L) k p c in
    performed (length q) (changed x L) (over q out)

-- .. with the code of its own checks, and its own effect alone
abbrev pub acting : Lent → DeviceAddress → Command → List ℕ → List ℕ → Performed
acting L s k p out =
    let c : Code = (row k).verdict (tables L) s p in
    performing L (on_ok c ((row k).effect (tables L) s p) nothing) k p c out
