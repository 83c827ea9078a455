-- All lent tables as one frame: one of them by its kind, and what a call does to each. What a command looks at and changes is said by kind, so that a
-- further table changes no command.
use Rattle.std.specs.Prelude.{Bool, cond, List, [], ◌∷◌, ℕ, eqb}
use Rattle.rules.specs.Types.{Kind, Devices, Binds, Groups, Members, Sessions}
use Rattle.rules.specs.Lists.{all}
use Rattle.rules.specs.Tables.{Rec, records, Change, none, written}
use Rattle.rules.specs.Layout.{shape, size}

-- the tables as their caller lends them
pub record Lent : Type 0 where
  pub devices : List ℕ
  pub binds : List ℕ
  pub groups : List ℕ
  pub members : List ℕ
  pub sessions : List ℕ

abbrev pub lent : List ℕ → List ℕ → List ℕ → List ℕ → List ℕ → Lent
lent ds bs gs ms ss = record { devices = ds; binds = bs; groups = gs; members = ms; sessions = ss }

-- .. by kind
abbrev pub lent_by : (Kind → List ℕ) → Lent
lent_by t = lent (t Devices) (t Binds) (t Groups) (t Members) (t Sessions)

-- no octet in any
abbrev pub nothing_lent : Lent
nothing_lent = lent_by (λ k. [])

-- the tables that commands use, beside all else that L has. These five are all that is lent so far: of L nothing is left.
abbrev pub beside : Lent → List ℕ → List ℕ → List ℕ → List ℕ → List ℕ → Lent
beside L ds bs gs ms ss = lent ds bs gs ms ss

-- one of them
abbrev pub lent_of : Kind → Lent → List ℕ
lent_of Devices L = L.devices
lent_of Binds L = L.binds
lent_of Groups L = L.groups
lent_of Members L = L.members
lent_of Sessions L = L.sessions

-- each of them, made anew
abbrev pub each : (Kind → List ℕ → List ℕ) → Lent → Lent
each f L = lent_by (λ k. f k (lent_of k L))

-- their order as arguments
abbrev pub kinds : List Kind
kinds = Devices ∷ Binds ∷ Groups ∷ Members ∷ Sessions ∷ []

-- does it hold of every table?
unfoldable pub every_table : (Kind → Bool) → Bool
every_table p = all p kinds

abbrev pub place : Kind → ℕ
place k = (shape k).place

-- a for the table k, and for the others what x has
unfoldable pub also : {A : Type 0} → Kind → A → (Kind → A) → Kind → A
also k a x j = cond (eqb (place j) (place k)) a (x j)

-- the octets of one table as its records
abbrev pub table : Kind → List ℕ → List Rec
table k t = records (size k) t

-- .. and of all
abbrev pub Tables : Type 0
Tables = Kind → List Rec

abbrev pub tables : Lent → Tables
tables L k = table k (lent_of k L)

-- what a call does to each table
abbrev pub Effect : Type 0
Effect = Kind → Change

unfoldable pub nothing : Effect
nothing k = none

abbrev pub only : Kind → Change → Effect
only k c = also k c nothing

unfoldable pub changed : Effect → Lent → Lent
changed x L = each (λ k. written (size k) (x k)) L
