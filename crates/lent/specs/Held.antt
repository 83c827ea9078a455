-- The tables that a value lends, as one frame (rules, Frame), and that it lends the same ones still.
use Rattle.std.specs.Prelude.{◌≡◌, List, ℕ, length}
use Rattle.std.specs.Borrow.{MutBor}
use Rattle.lent.specs.declared.Tables.{Tables}
use Rattle.lent.specs.declared.View.{View}
use Rattle.rules.specs.Frame.{Lent, lent}

abbrev pub held : Tables → Lent
held t = lent t.devices.now t.binds.now t.groups.now t.members.now t.sessions.now

abbrev pub viewed : View → Lent
viewed v = lent v.devices.now v.binds.now v.groups.now v.members.now v.sessions.now

-- a lent slice is the same one still, of as many octets
abbrev pub SameSlice : MutBor (List ℕ) → MutBor (List ℕ) → Type 0
SameSlice s t = (s.ghost_name ≡ t.ghost_name) × (length s.now ≡ length t.now)

-- no other tables took their place, and the devices are as they were
pub record SameTables (t u : Tables) : Type 0 where
  pub devices : t.devices ≡ u.devices
  pub binds : SameSlice t.binds u.binds
  pub groups : SameSlice t.groups u.groups
  pub members : SameSlice t.members u.members
  pub sessions : SameSlice t.sessions u.sessions
