-- What closes a read session, over all calls; and what is read back is the sheet: the fitter compares the binds that a read gives with the binds that
-- stand by history. Like condition 3 that is read from calls and answers alone (docs/HISTORY.md).
use Rattle.std.specs.Prelude.{◌≡◌, Bool, true, false, List, [], ◌∷◌, ◌++◌, ℕ, ◌*◌, min, length, take, drop, Some}
use Rattle.words.specs.Names.{header_length}
use Rattle.rules.specs.Types.{DeviceAddress, StartSession, GetEntries, Filter, Index, Part, Binds, Sessions}
use Rattle.rules.specs.Lists.{count, all, keep}
use Rattle.rules.specs.Octets.{octet, word, octet_string}
use Rattle.rules.specs.Tables.{Rec, records, used}
use Rattle.rules.specs.Layout.{size}
use Rattle.rules.specs.Frame.{Lent, tables}
use Rattle.rules.specs.Message.{fields, payload}
use Rattle.rules.specs.Sound.{distinct}
use Rattle.rules.specs.Payloads.{command}
use Rattle.rules.specs.Sessions.{in_session, entries_place, most_entries}
use Rattle.rules.specs.History.{Call, sends, admits, releases, Said, said, left, after, history, octets_only, granted, bind_named, standing, free_tables}

-- Closing (document 02, request 1)

-- the device whose call it is: a message's source, or the one that a host's call names
abbrev pub device_of : Call → DeviceAddress
device_of (sends m r l) = (fields m).source
device_of (admits d rights us) = d
device_of (releases d) = d

-- of one call on these tables
pub record Closes (L : Lent) (c : Call) : Type 0 where
  -- where the binds at exit differ from those at entry, no session is open
  pub closed : ((left L c).binds ≡ L.binds → ⊥) → used (tables (left L c) Sessions) ≡ []
  -- where they do not, every other device's session is as it was
  pub spared : (left L c).binds ≡ L.binds → (d : DeviceAddress) → ((device_of c).0 ≡ d.0 → ⊥)
      → in_session (tables (left L c) Sessions) d ≡ in_session (tables L Sessions) d
  -- a release leaves its device without one in any case
  pub released : (d : DeviceAddress) → c ≡ releases d → granted c (said L c) ≡ true → in_session (tables (left L c) Sessions) d ≡ false

-- What a reply says

-- Start: the number of binds, behind the code
unfoldable pub bind_count : Said → ℕ
bind_count a = word 1 (drop header_length a.reply)

-- a read: behind the code the number of entries, and behind that so many
unfoldable pub entries_read : Said → List Rec
entries_read a = let p : List ℕ = drop header_length a.reply in records (size Binds) (take (octet 1 p * size Binds) (drop entries_place p))

-- What a read with this payload should give of a sheet: by index from its start index on, as many as asked; by address those that it names, as a removal
-- names them; the first of them where there are more than fit
unfoldable pub read_of : Filter → List ℕ → List Rec → List Rec
read_of Index p sheet = take (min (octet 2 p) most_entries) (drop (word 0 p) sheet)
read_of (Part q) p sheet = take most_entries (keep (bind_named q p) sheet)

-- does the device d ask for a session by this call, granted or not?
abbrev pub Starting : DeviceAddress → Call → Type 0
Starting d (sends m r l) = (command (fields m) ≡ Some StartSession) × ((fields m).source.0 ≡ d.0)
Starting d (admits e rights us) = ⊥
Starting d (releases e) = ⊥

-- .. by none of these
abbrev pub NoStart : DeviceAddress → List Call → Type 0
NoStart d [] = Unit {0}
NoStart d (c ∷ cs) = (Starting d c → ⊥) × NoStart d cs

-- two lists have the same records, each as often, in whatever order: no test tells them apart by counting
abbrev pub SameRecords : List Rec → List Rec → Type 0
SameRecords k l = (p : Rec → Bool) → count p k ≡ count p l

-- after this run from these tables
pub record ReadBack (L : Lent) (cs : List Call) : Type 0 where
  -- the sheet's page of binds: every bind that stands, each once, in some order
  pub sheet : List Rec
  pub stands : SameRecords sheet (standing Binds (history L cs))
  pub once : distinct (size Binds) sheet ≡ true
  -- what a granted Start counts is the number of binds that stand
  pub counts : (m r l : List ℕ) → octet_string m ≡ true → command (fields m) ≡ Some StartSession
      → granted (sends m r l) (said (after L cs) (sends m r l)) ≡ true
      → bind_count (said (after L cs) (sends m r l)) ≡ length (standing Binds (history L cs))
  -- what a granted read gives is the sheet's, also where other calls came between, as long as its device started no session anew
  pub reads : (later : List Call) (f : Filter) (m r l : List ℕ) → all octets_only later ≡ true → NoStart (fields m).source later → octet_string m ≡ true
      → command (fields m) ≡ Some (GetEntries f)
      → granted (sends m r l) (said (after L (later ++ cs)) (sends m r l)) ≡ true
      → entries_read (said (after L (later ++ cs)) (sends m r l)) ≡ read_of f (payload m) sheet

abbrev pub IsTheSheet : Type 0
IsTheSheet = (L : Lent) → free_tables L ≡ true → (cs : List Call) → all octets_only cs ≡ true → ReadBack L cs
