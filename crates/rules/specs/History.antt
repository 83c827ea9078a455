-- Condition 3's words, read from the calls and their answers alone: a run, its history, what stands, what is linked, what is counted.
-- Nothing here looks into a table, and nothing of what a call does to a table is used to say what it adds or withdraws: a payload is told in numbers here,
-- where the tables compare octets. A message's fields and command, and the places of a record's fields, are those of condition 2 (docs/DECISIONS.md, 20).
use Rattle.std.specs.Prelude.{◌≡◌, Bool, true, false, cond, not, ◌||◌, List, [], ◌∷◌, ◌++◌, ℕ, ◌+◌, eqb, length, drop, Option, None, Some}
use Rattle.words.specs.Names.{concentrator, any_device, any_unit, any_interface, device, group, ok, header_length}
use Rattle.words.specs.declared.BindPart.TheVariants.{Whole, Source, SourceUnit, Destination, DestinationUnit}
use Rattle.words.specs.Outcomes.{number_of}
use Rattle.rules.specs.Types.{DeviceAddress, GroupAddress, Fields, BindAddress, BindPart, Command, AddBind, RemoveBinds, StartSession, EndSession}
use Rattle.rules.specs.Types.{GetEntries, CreateGroup, DeleteGroup, AddToGroup, RemoveFromGroup, GetGroupInfo, Kind, Devices, Binds, Groups}
use Rattle.rules.specs.Types.{Members, Sessions, Outcome, Reason}
use Rattle.rules.specs.Lists.{count, any, all, keep, has, ◌&◌}
use Rattle.rules.specs.Octets.{octet, word, octets, number, joined, octet_string}
use Rattle.rules.specs.Units.{unit_number, rising}
use Rattle.rules.specs.Tables.{Rec, is_free}
use Rattle.rules.specs.Layout.{size, most, address_length, units_length, in_set, device_address, device_units, device_record}
use Rattle.rules.specs.Layout.{bind_source, bind_source_unit, bind_interface, bind_role, bind_uid, bind_destination, bind_unit, to_group, bound_group, bound_device}
use Rattle.rules.specs.Layout.{bind_to, member_group, member_device, member_unit, member_number, member_record}
use Rattle.rules.specs.Frame.{Lent, lent_of, every_table, also, table}
use Rattle.rules.specs.Message.{fields, payload, sender, destination, response, length_fits, data_length_fits, type_fits}
use Rattle.rules.specs.Sound.{whole_records, sound}
use Rattle.rules.specs.Payloads.{command}
use Rattle.rules.specs.Host.{HostAnswer, admit, release}
use Rattle.rules.specs.Calls.{roomy, Answer, message, forwarded}

-- A run

-- a message with the reply and the list that go with it, or a host call
pub data Call : Type 0 where
  sends : List ℕ → List ℕ → List ℕ → Call
  admits : DeviceAddress → ℕ → List ℕ → Call
  releases : DeviceAddress → Call

-- what a caller is told: the outcome, the reason, and the reply and the list as they come back
pub record Said : Type 0 where
  pub outcome : Outcome
  pub reason : Option Reason
  pub reply : List ℕ
  pub list : List ℕ

abbrev pub said_by : Answer → Said
said_by x = record { outcome = x.outcome; reason = x.reason; reply = x.reply; list = x.list }

-- a host call has no reply and no list, and gives no reason
abbrev pub said_by_host : HostAnswer → Said
said_by_host x = record { outcome = x.outcome; reason = None; reply = []; list = [] }

unfoldable pub said : Lent → Call → Said
said L (sends m r l) = said_by (message L m r l)
said L (admits d rights us) = said_by_host (admit L d rights us)
said L (releases d) = said_by_host (release L d)

-- the tables that a call leaves
unfoldable pub left : Lent → Call → Lent
left L (sends m r l) = (message L m r l).tables
left L (admits d rights us) = (admit L d rights us).tables
left L (releases d) = (release L d).tables

-- the tables after a run. The latest call stands first.
unfoldable pub after : Lent → List Call → Lent
after L [] = L
after L (c ∷ cs) = left (after L cs) c

pub record Event : Type 0 where
  pub call : Call
  pub told : Said

-- the calls of a run with their answers
unfoldable pub history : Lent → List Call → List Event
history L [] = []
history L (c ∷ cs) = record { call = c; told = said (after L cs) c } ∷ history L cs

-- a message is a string of octets, a set of units 32 of them
unfoldable pub octets_only : Call → Bool
octets_only (sends m r l) = octet_string m
octets_only (admits d rights us) = eqb (length us) units_length & octet_string us
octets_only (releases d) = true

-- What stands

-- was the call granted: outcome 0, and for a message the code 0x00, octet 16 of the reply?
unfoldable pub granted : Call → Said → Bool
granted (sends m r l) a = eqb (number_of a.outcome) 0 & eqb (octet header_length a.reply) ok.0
granted (admits d rights us) a = eqb (number_of a.outcome) 0
granted (releases d) a = eqb (number_of a.outcome) 0

-- what a granted call writes on the fitter's sheet: nothing, one line, or a stroke through every line that passes
pub data Entry : Type 0 where
  silent : Entry
  adds : Rec → Entry
  withdraws : (Rec → Bool) → Entry

-- has the sheet a page for this table? Groups have none, nor have sessions.
unfoldable pub has_page : Kind → Bool
has_page Devices = true
has_page Binds = true
has_page Groups = false
has_page Members = true
has_page Sessions = false

-- what is written on each page
abbrev pub Entries : Type 0
Entries = Kind → Entry

unfoldable pub silence : Entries
silence k = silent

-- The payload of a command, told in numbers. The number of a source, a group or a member has 15 bits, and the bit above them does not count; that of a
-- bind's destination is its flag.

-- the bind of Add Bind: its source's number, and all that follows as it came
unfoldable pub bind_said : List ℕ → Rec
bind_said p = octets (number (bind_source p).0) ++ drop address_length p

-- does a Remove command with this payload name the bind? Payloads by source begin as a bind does; those by destination have its octets 6-8.
unfoldable pub bind_named : BindPart → List ℕ → Rec → Bool
bind_named Whole p b =
    eqb (bind_source b).0 (number (bind_source p).0)
    & eqb (bind_source_unit b) (bind_source_unit p)
    & eqb (bind_interface b) (bind_interface p)
    & eqb (bind_destination b) (bind_destination p)
    & eqb (bind_unit b) (bind_unit p)
bind_named Source p b = eqb (bind_source b).0 (number (bind_source p).0)
bind_named SourceUnit p b = eqb (bind_source b).0 (number (bind_source p).0) & eqb (bind_source_unit b) (bind_source_unit p)
bind_named Destination p b = eqb (bind_destination b) (word 0 p)
bind_named DestinationUnit p b = eqb (bind_destination b) (word 0 p) & eqb (bind_unit b) (octet 2 p)

-- the group of Delete Group and Get Group Info
unfoldable pub group_said : List ℕ → GroupAddress
group_said p = group (number (word 0 p))

-- the member of Add to Group and Remove from Group
unfoldable pub member_said : List ℕ → Rec
member_said p = member_record (group (number (member_group p).0)) (device (number (member_device p).0)) (member_unit p)

unfoldable pub member_named : List ℕ → Rec → Bool
member_named p x =
    eqb (member_group x).0 (number (member_group p).0) & eqb (member_device x).0 (number (member_device p).0) & eqb (member_unit x) (member_unit p)

-- a command, by its payload
unfoldable pub lines : Command → List ℕ → Entries
lines AddBind p = also Binds (adds (bind_said p)) silence
lines (RemoveBinds q) p = also Binds (withdraws (bind_named q p)) silence
lines StartSession p = silence
lines EndSession p = silence
lines (GetEntries f) p = silence
lines CreateGroup p = silence
lines DeleteGroup p =
    also Members (withdraws (λ x. eqb (member_group x).0 (group_said p).0))
    (also Binds (withdraws (λ b. to_group b & eqb (bound_group b).0 (group_said p).0)) silence)
lines AddToGroup p = also Members (adds (member_said p)) silence
lines RemoveFromGroup p = also Members (withdraws (member_named p)) silence
lines GetGroupInfo p = silence

unfoldable pub asked : Option Command → List ℕ → Entries
asked (Some k) p = lines k p
asked None p = silence

-- a call
unfoldable pub entries : Call → Entries
entries (sends m r l) = asked (command (fields m)) (payload m)
entries (admits d rights us) = also Devices (adds (device_record d rights us)) silence
entries (releases d) =
    also Devices (withdraws (λ x. eqb (device_address x).0 d.0))
    (also Members (withdraws (λ x. eqb (member_device x).0 d.0))
    (also Binds (withdraws (λ b. eqb (bind_source b).0 d.0 || (not (to_group b) & eqb (bound_device b).0 d.0))) silence))

unfoldable pub stand : Entry → List Rec → List Rec
stand silent l = l
stand (adds r) l = r ∷ l
stand (withdraws q) l = keep (λ r. not (q r)) l

-- a page: the records added by a granted call and withdrawn by none since
unfoldable pub standing : Kind → List Event → List Rec
standing k [] = []
standing k (e ∷ h) = cond (granted e.call e.told) (stand (entries e.call k) (standing k h)) (standing k h)

-- The same in the customer's own form: a granted call added the record, and no later granted call withdrew it.

unfoldable pub strikes : Entry → Rec → Bool
strikes silent r = false
strikes (adds x) r = false
strikes (withdraws q) r = q r

unfoldable pub spares : Kind → Rec → Event → Bool
spares k r e = not (granted e.call e.told & strikes (entries e.call k) r)

pub record Stands (k : Kind) (r : Rec) (h : List Event) : Type 0 where
  pub later : List Event
  pub event : Event
  pub earlier : List Event
  pub whole : h ≡ later ++ event ∷ earlier
  pub answered : granted event.call event.told ≡ true
  pub added : entries event.call k ≡ adds r
  pub kept : all (spares k r) later ≡ true

-- What is linked and counted

-- a bind names the unit, or a group to which the unit was added
unfoldable pub reaches : List Rec → ℕ → Rec → Bool
reaches ms u b =
    cond (to_group b) (any (λ x. eqb (member_group x).0 (bound_group b).0 & eqb (member_number x) u) ms) (eqb (bind_to b) u)

-- a number that a bind says; where it is the one for any, the message's own is filled in
unfoldable pub filled_in : (anyOne said own : ℕ) → ℕ
filled_in anyOne said own = cond (eqb said anyOne) own said

-- so filled in by a message of these fields, the source of a bind as one number, and its interface with its role as one

unfoldable pub source_said : Fields → Rec → ℕ
source_said f b =
    unit_number (device (filled_in any_device.0 (bind_source b).0 f.source.0)) (filled_in any_unit (bind_source_unit b) f.source_unit)

unfoldable pub interface_said : Fields → Rec → ℕ
interface_said f b = joined (bind_role b) (filled_in any_interface (bind_uid b) f.uid)

-- "matching" (document 02, request 4): was the bind, filled in, made for the sender of the message, and for its interface and role?
unfoldable pub made_for : Fields → Rec → Bool
made_for f b = eqb (source_said f b) (sender f) & eqb (interface_said f b) (joined f.interface_type f.uid)

-- does a matching bind link the unit u to the sender?
unfoldable pub linked : List Event → Fields → ℕ → Bool
linked h f u = any (λ b. made_for f b & reaches (standing Members h) u b) (standing Binds h)

-- the additions to the group less those withdrawn
unfoldable pub counted : List Event → GroupAddress → ℕ
counted h g = count (λ x. eqb (member_group x).0 g.0) (standing Members h)

-- unit 0 of the concentrator, or one of the set with which a device was admitted, and the device not released since
unfoldable pub existing : List Event → DeviceAddress → ℕ → Bool
existing h d u =
    cond (eqb d.0 concentrator.0) (eqb u 0)
    (any (λ x. eqb (device_address x).0 d.0 & in_set u (device_units x)) (standing Devices h))

-- a well-formed request from an existing unit to the bind address
pub record Request (h : List Event) (m : List ℕ) : Type 0 where
  -- it can be read, and is no response
  pub octets : octet_string m ≡ true
  pub length : length_fits m ≡ true
  pub told_length : data_length_fits m ≡ true
  pub type : type_fits m ≡ true
  pub request : response (fields m) ≡ false
  -- its sender exists by history
  pub sent : existing h (fields m).source (fields m).source_unit ≡ true
  pub to_bind_address : destination (fields m) ≡ BindAddress

-- "exactly the units .. without the sender, each once, by rising device and unit"
pub record Exactly (h : List Event) (f : Fields) (us : List ℕ) : Type 0 where
  pub order : rising us ≡ true
  pub exact : (u : ℕ) → has u us ≡ (not (eqb u (sender f)) & linked h f u)

-- the number of members in a reply to Get Group Info: behind the code, the name's length and the name
unfoldable pub member_count : Said → ℕ
member_count a = let p : List ℕ = drop header_length a.reply in word (2 + octet 1 p) p

-- Condition 3

-- a table of a size allowed, with every record free
unfoldable pub free_table : Kind → List ℕ → Bool
free_table k t = whole_records (size k) (most k) t & all is_free (table k t)

unfoldable pub free_tables : Lent → Bool
free_tables L = every_table (λ k. free_table k (lent_of k L))

-- after this run from these tables
pub record Holds (L : Lent) (cs : List Call) : Type 0 where
  -- the tables are sound: outcome 16 never occurs
  pub sound : sound (after L cs) ≡ true
  -- a well-formed request goes to exactly the linked units, and nobody else; no octet of the tables changes
  pub delivered : (m r l us : List ℕ) → Request (history L cs) m → roomy L.binds L.members r l ≡ true → Exactly (history L cs) (fields m) us
      → message (after L cs) m r l ≡ forwarded us (after L cs) r l
  -- there is such a list
  pub linked-units : (m : List ℕ) → octet_string m ≡ true → (us : List ℕ) × Exactly (history L cs) (fields m) us
  -- the count of Get Group Info is the history's
  pub counts : (m r l : List ℕ) → octet_string m ≡ true → command (fields m) ≡ Some GetGroupInfo
      → granted (sends m r l) (said (after L cs) (sends m r l)) ≡ true
      → member_count (said (after L cs) (sends m r l)) ≡ counted (history L cs) (group_said (payload m))

abbrev pub Condition3 : Type 0
Condition3 = (L : Lent) → free_tables L ≡ true → (cs : List Call) → all octets_only cs ≡ true → Holds L cs
