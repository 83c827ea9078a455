-- A message, whole (document 01, Outcomes): the order of its outcomes, and what every lent octet holds after it.
use Rattle.std.specs.Prelude.{Bool, true, false, not, List, [], ◌∷◌, ℕ, ◌+◌, ◌*◌, ◌/◌, max, leb, length, Option, None, Some, Result, Ok, Err}
use Rattle.words.specs.Names.{header_length, longest}
use Rattle.words.specs.declared.Destination.{Destination}
use Rattle.rules.specs.Types.{Done, Forwarded, Nobody, NoSource, NoDestination, ResponseToMany, Unsound, NoRoom, NotServed, Refusal}
use Rattle.rules.specs.Types.{Code, Fields, Concentrator, BindAddress, Unit, Group, Command, Devices, Binds, Groups, Members, Outcome, Way}
use Rattle.rules.specs.Types.{Serve, Forward, Reason, Told}
use Rattle.rules.specs.Lists.{ask, ◌&◌}
use Rattle.rules.specs.Octets.{over}
use Rattle.rules.specs.Units.{unit_octets}
use Rattle.rules.specs.Tables.{Rec}
use Rattle.rules.specs.Layout.{size}
use Rattle.rules.specs.Frame.{Lent, tables, changed}
use Rattle.rules.specs.Message.{fields, payload, destination, response, reads, reply}
use Rattle.rules.specs.Exists.{unit_exists, group_exists}
use Rattle.rules.specs.Sound.{sound}
use Rattle.rules.specs.Recipients.{recipients}
use Rattle.rules.specs.Payloads.{command}
use Rattle.rules.specs.Commands.{judge, explained, done, reply_payload}

-- outcome 17: "reply under 500 octets, or recipient list under 3 × max(1, bind records + member records), .. lengths divided down"
unfoldable pub roomy : List ℕ → List ℕ → List ℕ → List ℕ → Bool
roomy bs ms reply list =
    leb longest (length reply)
    & leb (3 * max 1 (length bs / size Binds + length ms / size Members)) (length list)

-- outcome 15 is for a group and for D'7FFF:U'FF
unfoldable pub to_many : Destination → Bool
to_many Concentrator = false
to_many BindAddress = true
to_many (Unit d u) = false
to_many (Group g) = true

-- outcome 18
unfoldable pub asking : Option Command → Result Way Refusal
asking (Some k) = Ok (Serve k)
asking None = Err NotServed

-- "then 18 for D'0:U'0 or 14 for the rest"; D'7FFF:U'FF always exists
unfoldable pub way_to : List Rec → List Rec → Destination → Fields → Result Way Refusal
way_to ds gs Concentrator f = asking (command f)
way_to ds gs BindAddress f = Ok (Forward BindAddress)
way_to ds gs (Unit d u) f = ask (unit_exists ds d u) (Err NoDestination) (Ok (Forward (Unit d u)))
way_to ds gs (Group g) f = ask (group_exists gs g) (Err NoDestination) (Ok (Forward (Group g)))

-- what can be read: "13, 15, then .."
unfoldable pub way_on : List Rec → List Rec → Fields → Result Way Refusal
way_on ds gs f =
    ask (unit_exists ds f.source f.source_unit) (Err NoSource)
    (ask (not (response f & to_many (destination f))) (Err ResponseToMany)
    (way_to ds gs (destination f) f))

-- "Order for a message: 17, 16, 10, 11, 12, 13, 15, then .."
unfoldable pub way : Lent → List ℕ → List ℕ → List ℕ → Result Way Refusal
way L m reply list =
    ask (roomy L.binds L.members reply list) (Err NoRoom)
    (ask (sound L) (Err Unsound)
    (reads m Err
    (way_on (tables L Devices) (tables L Groups) (fields m))))

-- what a message answers, and what the tables, the reply and the list then hold
pub record Answer : Type 0 where
  pub outcome : Outcome
  -- what is wrong with an Add Bind that is answered 0x02 (document 02, request 6)
  pub reason : Option Reason
  pub tables : Lent
  pub reply : List ℕ
  pub list : List ℕ

abbrev pub explaining : Outcome → Option Reason → Lent → List ℕ → List ℕ → Answer
explaining o f L r l = record { outcome = o; reason = f; tables = L; reply = r; list = l }

-- "With any other .. outcome reason and octet are 0."
abbrev pub answer : Outcome → Lent → List ℕ → List ℕ → Answer
answer o L r l = explaining o None L r l

-- what a call tells: what the message comes to and the reason, or why it is refused
abbrev pub telling : Result Told Refusal → Lent → List ℕ → List ℕ → Answer
telling (Ok t) L r l = explaining (Ok t.accepted) t.reason L r l
telling (Err why) L r l = answer (Err why) L r l

-- a command with this code: the tables as it leaves them, and the reply, whose length is returned
unfoldable pub answered : Lent → Command → Fields → List ℕ → Code → List ℕ → List ℕ → Answer
answered L k f p c r l =
    let q : List ℕ = reply_payload (tables L) k p c in
    explaining (Ok (Done (header_length + length q))) (explained (tables L) k p c) (changed (done (tables L) f.source k p c) L) (over (reply f q) r) l

-- .. the code being that of its checks
unfoldable pub handled : Lent → Command → Fields → List ℕ → List ℕ → List ℕ → Answer
handled L k f p r l = answered L k f p (judge (tables L) f.source k p) r l

-- a message to hand on: the recipients, 3 octets each, and their number; outcome 2 where there is none
unfoldable pub forwarded : List ℕ → Lent → List ℕ → List ℕ → Answer
forwarded [] L r l = answer (Ok Nobody) L r l
forwarded (u ∷ us) L r l = answer (Ok (Forwarded (length (u ∷ us)))) L r (over (unit_octets (u ∷ us)) l)

unfoldable pub follow : Result Way Refusal → Lent → List ℕ → List ℕ → List ℕ → Answer
follow (Err why) L m r l = answer (Err why) L r l
follow (Ok (Serve k)) L m r l = handled L k (fields m) (payload m) r l
follow (Ok (Forward to)) L m r l = forwarded (recipients (tables L Binds) (tables L Members) to (fields m)) L r l

unfoldable pub message : Lent → List ℕ → List ℕ → List ℕ → Answer
message L m r l = follow (way L m r l) L m r l
