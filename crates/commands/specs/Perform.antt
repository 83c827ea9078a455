-- A command whole: all checks, its own part, and sessions closed where it changes the binds.
use Rattle.std.specs.Prelude.{Bool, true, false, List, ℕ, Option}
use Rattle.rules.specs.Types.{DeviceAddress, Code, Reason, Command, AddBind, RemoveBinds, StartSession, EndSession, GetEntries, CreateGroup}
use Rattle.rules.specs.Types.{DeleteGroup, AddToGroup, RemoveFromGroup, GetGroupInfo}
use Rattle.rules.specs.Lists.{any}
use Rattle.rules.specs.Tables.{Rec, used}
use Rattle.rules.specs.Layout.{to_this_group}
use Rattle.rules.specs.Frame.{Lent, tables}
use Rattle.rules.specs.Payloads.{group_named}
use Rattle.rules.specs.Commands.{judge, explained, done}
use Rattle.acting.specs.Acting.{Performed, performing}

-- a command with the code of all checks, and its effect whole
abbrev pub judging : Lent → DeviceAddress → Command → List ℕ → List ℕ → Performed
judging L s k p out =
    let c : Code = judge (tables L) s k p in
    performing L (done (tables L) s k p c) k p c out

-- what its caller is told of that code
abbrev pub reasoning : Lent → DeviceAddress → Command → List ℕ → Option Reason
reasoning L s k p = explained (tables L) k p (judge (tables L) s k p)

-- does a command that is granted change the binds? Add Bind and the Remove commands do; Delete Group does where a bind to the group is there
unfoldable pub touches : Command → List Rec → List ℕ → Bool
touches AddBind bs p = true
touches (RemoveBinds q) bs p = true
touches StartSession bs p = false
touches EndSession bs p = false
touches (GetEntries f) bs p = false
touches CreateGroup bs p = false
touches DeleteGroup bs p = any (to_this_group (group_named p)) (used bs)
touches AddToGroup bs p = false
touches RemoveFromGroup bs p = false
touches GetGroupInfo bs p = false
