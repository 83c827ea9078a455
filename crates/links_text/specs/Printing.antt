-- The text of `links` (document 01, Rows to try): four tables at full size and then the message, answered with all sessions free, a reply and a list of
-- zeros.
use Rattle.std.specs.Prelude.{cond, List, ℕ, ◌+◌, ◌*◌, ltb, length, take, drop, replicate, Option, None}
use Rattle.words.specs.Names.{longest}
use Rattle.rules.specs.Types.{Reason, Devices, Binds, Groups, Members, Sessions}
use Rattle.rules.specs.Tables.{free}
use Rattle.rules.specs.Layout.{most, full}
use Rattle.rules.specs.Frame.{Lent, lent}
use Rattle.rules.specs.Calls.{Answer, message}
use Rattle.report.specs.Text.{answer_text, short_text}

-- where each table but the first begins, and how long all of them are: 2,304, 512, 256 and 640 octets

abbrev pub at_binds : ℕ
at_binds = full Devices

abbrev pub at_groups : ℕ
at_groups = at_binds + full Binds

abbrev pub at_members : ℕ
at_members = at_groups + full Groups

abbrev pub all_tables : ℕ
all_tables = at_members + full Members

-- the list that is lent: room for every bind and every member
abbrev pub list_length : ℕ
list_length = 3 * (most Binds + most Members)

unfoldable pub given : List ℕ → Lent
given s =
    lent (take (full Devices) s) (take (full Binds) (drop at_binds s)) (take (full Groups) (drop at_groups s)) (take (full Members) (drop at_members s))
    (replicate (full Sessions) free)

-- the answer to the message behind them
unfoldable pub answered : List ℕ → Answer
answered s = message (given s) (drop all_tables s) (replicate longest 0) (replicate list_length 0)

-- "input under 3,712 is short" (document 02, request 2): it "prints `short input` alone"
unfoldable pub printed : List ℕ → List ℕ
printed s = cond (ltb (length s) all_tables) short_text (answer_text (answered s).outcome (answered s).reply (answered s).list)

-- why an Add Bind is answered 0x02 (document 02, request 6)
unfoldable pub reasoned : List ℕ → Option Reason
reasoned s = cond (ltb (length s) all_tables) None (answered s).reason
