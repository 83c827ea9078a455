-- What callers see of a chain of calls: each call met its contract, on the tables that the call before it left. And condition 3 of what they saw, and what
-- they read back, in terms of what was told, of the tables as they now are, and of the contract of one more call.
use Rattle.std.specs.Prelude.{◌≡◌, true, List, [], ◌∷◌, ◌++◌, map, ℕ, length, Some}
use Rattle.rules.specs.Types.{StartSession, GetEntries, Filter, GetGroupInfo, Binds}
use Rattle.rules.specs.Lists.{all}
use Rattle.rules.specs.Octets.{octet_string}
use Rattle.rules.specs.Tables.{Rec}
use Rattle.rules.specs.Layout.{size}
use Rattle.rules.specs.Frame.{Lent}
use Rattle.rules.specs.Message.{fields, payload}
use Rattle.rules.specs.Sound.{distinct, sound}
use Rattle.rules.specs.Payloads.{command}
use Rattle.rules.specs.Calls.{roomy, explaining, forwarded}
use Rattle.rules.specs.History.{Call, sends, Said, Event, octets_only, granted, group_said, standing, counted, Request, Exactly, member_count}
use Rattle.rules.specs.Sheet.{bind_count, entries_read, read_of, NoStart, SameRecords}

-- what it is to meet a contract: the call, made on the tables L, told its caller a, and left the tables M
abbrev pub Contract : Type 1
Contract = (L : Lent) → Call → (a : Said) → (M : Lent) → Type 0

-- from the tables L₀ on, calls that met their contract, the latest first, and the tables that they left
pub data Seen (Meets : Contract) (L₀ : Lent) : List Event → Lent → Type 0 where
  begins : Seen Meets L₀ [] L₀
  goes_on : {h : List Event} {L M : Lent} {c : Call} {a : Said} → Seen Meets L₀ h L → Meets L c a M → Seen Meets L₀ (record { call = c; told = a } ∷ h) M

-- the calls of what was seen
abbrev pub calls : List Event → List Call
calls h = map (λ (e : Event). e.call) h

-- condition 3 of what was seen, h, and of the tables L as they then are
pub record SeenHolds (Meets : Contract) (h : List Event) (L : Lent) : Type 0 where
  -- the tables are sound: outcome 16 never occurs
  pub sound : sound L ≡ true
  -- one more message, a well-formed request with enough room, is answered the units that are linked by what was seen, and changes no table
  pub delivered : {m r l : List ℕ} {a : Said} {M : Lent} → Meets L (sends m r l) a M → Request h m → roomy L.binds L.members r l ≡ true
      → (us : List ℕ) → Exactly h (fields m) us → explaining a.outcome a.reason M a.reply a.list ≡ forwarded us L r l
  -- there is such a list
  pub linked-units : (m : List ℕ) → octet_string m ≡ true → (us : List ℕ) × Exactly h (fields m) us
  -- one more message, Get Group Info and granted, is told the number of members by what was seen
  pub counts : {m r l : List ℕ} {a : Said} {M : Lent} → Meets L (sends m r l) a M → octet_string m ≡ true → command (fields m) ≡ Some GetGroupInfo
      → granted (sends m r l) a ≡ true → member_count a ≡ counted h (group_said (payload m))

-- what is read back, of what was seen from the tables L₀ on
pub record SeenReads (Meets : Contract) (L₀ : Lent) (h : List Event) : Type 0 where
  -- the sheet's page of binds: every bind that stands by what was seen, each once, in some order
  pub sheet : List Rec
  pub stands : SameRecords sheet (standing Binds h)
  pub once : distinct (size Binds) sheet ≡ true
  -- one more message, Start and granted, is told the number of binds that stand
  pub counts : {L M : Lent} {m r l : List ℕ} {a : Said} → Seen Meets L₀ h L → Meets L (sends m r l) a M → octet_string m ≡ true
      → command (fields m) ≡ Some StartSession → granted (sends m r l) a ≡ true → bind_count a ≡ length (standing Binds h)
  -- one more message, a read and granted, is told what it asks of the sheet, also after further calls by which its device started no session anew
  pub reads : (later : List Event) (f : Filter) {L M : Lent} {m r l : List ℕ} {a : Said} → Seen Meets L₀ (later ++ h) L → Meets L (sends m r l) a M
      → all octets_only (calls later) ≡ true → NoStart (fields m).source (calls later) → octet_string m ≡ true → command (fields m) ≡ Some (GetEntries f)
      → granted (sends m r l) a ≡ true → entries_read a ≡ read_of f (payload m) sheet
