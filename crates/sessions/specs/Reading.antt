-- What Start and a read answer.
use Rattle.std.specs.Prelude.{cond, List, [], ◌∷◌, ℕ, length}
use Rattle.words.specs.Names.{no_read_session}
use Rattle.rules.specs.Types.{DeviceAddress, Code, Filter, Binds, Sessions}
use Rattle.rules.specs.Octets.{octets, over}
use Rattle.rules.specs.Tables.{Rec, used, store, written}
use Rattle.rules.specs.Layout.{size, session_record}
use Rattle.rules.specs.Frame.{table}
use Rattle.rules.specs.Sessions.{in_session, entries_by, listing}
use Rattle.rules.specs.Commands.{opening, session_or, on_ok}
use Rattle.changing.specs.Changing.{Coded, coded}

-- a session that is opened: the code, and the table that was lent, with one record more where the device had none
unfoldable pub opened : DeviceAddress → List ℕ → Coded
opened s ss =
    let c : Code = opening s (table Sessions ss) in
    coded c (on_ok c (cond (in_session (table Sessions ss) s) ss (written (size Sessions) (store (session_record s)) ss)) ss)

-- Start whole: the length of its reply's payload, the session table, and the part of the reply where the payload stands
pub record Started : Type 0 where
  pub length : ℕ
  pub sessions : List ℕ
  pub out : List ℕ

abbrev pub started : ℕ → List ℕ → List ℕ → Started
started n ss out = record { length = n; sessions = ss; out = out }

unfoldable pub starting : List ℕ → List ℕ → DeviceAddress → List ℕ → Started
starting bs ss s out =
    let o : Coded = opened s ss in
    let q : List ℕ = o.code.0 ∷ on_ok o.code (octets (length (used (table Binds bs)))) [] in
    started (length q) o.table (over q out)

-- a read: the payload of its reply
unfoldable pub reading : List Rec → List Rec → DeviceAddress → Filter → List ℕ → List ℕ
reading bs ss s f p =
    let c : Code = session_or no_read_session s ss in
    c.0 ∷ on_ok c (listing (entries_by f p bs)) []
