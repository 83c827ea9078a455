-- The rows of document 01, "Rows to try": the cases marked P and the sample of `links`, from tables of full size. Then all rows in one theorem: these,
-- and those of the files `RowsOf..`, which speak of the paper's other sentences.
use Rattle.std.specs.Prelude.{Ok, Err}
use Rattle.words.specs.Basics.{refl, List, [], ◌∷◌, ◌++◌, ℕ}
use Rattle.rules.specs.Frame.{Lent}
use Rattle.rules.specs.Message.{reading}
use Rattle.rules.specs.Calls.{Answer}
use Rattle.rules.specs.History.{octets_only}
use Rattle.words.specs.Outcomes.{number_of, value_of}
use Rattle.rules.specs.Types.{NotServed}
use Rattle.words.proofs.Apart.{read_back, reason_back}
use Rattle.rules.specs.Types.{Outcome, Done, Forwarded, Nobody, WrongLength, WrongDataLength, WrongType, NoSource, NoDestination, ResponseToMany}
use Rattle.rules.specs.Types.{Unsound, NoRoom, NoCopy, OutOfRange, AlreadyAdmitted, NoFreeRecord, NotAdmitted}
use Rattle.rules.proofs.Whole.{whole}
use Rattle.rules.proofs.RowsOfDelivery as delivery
use Rattle.rules.proofs.RowsOfRefusals as refusals
use Rattle.rules.proofs.RowsOfTables as unsound
use Rattle.rules.proofs.RowsOfBinds as binds
use Rattle.rules.proofs.RowsOfGroups as groups
use Rattle.rules.proofs.RowsOfCommands as commands
use Rattle.rules.proofs.RowsOfCalls as calls
use Rattle.rules.proofs.RowsOfUnits as units
use Rattle.rules.proofs.RowsOfScenes as scenes
use Rattle.rules.proofs.RowsOfSessions as sessions
use Rattle.rules.proofs.RowsOfEntries as entries
use Rattle.rules.proofs.RowsOfReasons as reasons
use Rattle.rules.proofs.Samples.{Row, row, AsTold, run, lending, filled, device-table, D3, D4, D5, named, three_members, holding, three-one, four-one}
use Rattle.rules.proofs.Samples.{to_group-one, curtains, bind_management, letter, request, Sent, told, because, answer_to, reply}

-- devices 3 (rights 1, units 0 to 2), 4 (0, 0 to 2), 5 (0, 0 and 1); group 1 named "S"; members 5:01, 4:02, 3:01 in that order; these binds
abbrev start : List ℕ → Lent
start bs = holding (device-table 64 (D3 ++ D4 ++ D5)) (filled 512 bs) (filled 256 (named 1 (0x53 ∷ []))) (filled 640 three_members)

abbrev list : List ℕ
list = lending 579 []

abbrev starting : List ℕ → List ℕ → Answer → Row Sent Answer
starting bs m a = row (record { tables = start bs; message = m; reply = reply; list = list }) a

-- Add Bind from this unit; its one-octet reply, and the binds that are left

abbrev adding : List ℕ → List ℕ → List ℕ
adding from p = letter from (run 3 0x00_00_00) 0x01 bind_management 0x01 p

abbrev coded : List ℕ → List ℕ → ℕ → Answer
coded bs to code = told 0 16 (start bs) (lending 500 (run 3 0x00_00_00 ++ to ++ run 9 0x00_00_07_03_80_02_01_00_01 ++ code ∷ [])) list

-- Add Bind from 3:01: the binds before, its payload, the binds after, its code
abbrev adds : List ℕ → List ℕ → List ℕ → ℕ → Row Sent Answer
adds before p after code = starting before (adding three-one p) (coded after three-one code)

-- .. answered 0x02 for this reason
abbrev faulty : List ℕ → List ℕ → ℕ → Row Sent Answer
faulty before p reason = starting before (adding three-one p) (because reason (coded before three-one 0x02))

abbrev refuses : List ℕ → ℕ → Row Sent Answer
refuses m outcome = starting [] m (told outcome 0 (start []) reply list)

abbrev bind1 : List ℕ
bind1 = run 8 0x00_03_01_82_00_00_04_02

abbrev bind2 : List ℕ
bind2 = run 8 0x00_03_01_82_00_80_01_00

abbrev bind8 : List ℕ
bind8 = run 8 0x00_03_01_82_00_00_05_01

abbrev paper : List (Row Sent Answer)
paper =
    -- P1, P2
    adds [] bind1 bind1 0x00
    ∷ adds [] bind2 bind2 0x00
    -- P3 stores as P1; P4 is P1 again
    ∷ adds [] (run 8 0x80_03_01_82_00_00_04_02) bind1 0x00
    ∷ faulty bind1 bind1 9
    -- P5 from device 4, P6 seven octets
    ∷ starting [] (adding four-one bind1) (coded [] four-one 0x01)
    ∷ faulty [] (run 7 0x00_03_01_82_00_00_04) 1
    -- P7 destination 5:02, P8 destination 5:01, P9 destination 3:01
    ∷ faulty [] (run 8 0x00_03_01_82_00_00_05_02) 6
    ∷ adds [] bind8 bind8 0x00
    ∷ faulty [] (run 8 0x00_03_01_82_00_00_03_01) 8
    -- P10 fourteen octets, P11 type 0x11, P12 type 0x03 to G'0001
    ∷ refuses (run 14 0x00_03_01_00_00_00_00_00_07_01_80_02_01_00) 10
    ∷ refuses (letter three-one (run 3 0x00_00_00) 0x11 bind_management 0x01 bind1) 12
    ∷ refuses (letter three-one to_group-one 0x03 bind_management 0x01 bind1) 15
    -- the sample of `links`: 4:02 once, though by bind and by group, and 3:01, the sender, not at all
    ∷ starting (bind1 ++ bind2) (request three-one curtains) (told 1 2 (start (bind1 ++ bind2)) reply (lending 579 (run 6 0x00_04_02_00_05_01)))
    ∷ []

-- The list of outcomes: each with its number and its count

abbrev numbered : Outcome → List ℕ
numbered o = number_of o ∷ value_of o ∷ []

abbrev outcomes : List (Row Outcome (List ℕ))
outcomes =
    row (Ok (Done 16)) (0 ∷ 16 ∷ [])
    ∷ row (Ok (Forwarded 2)) (1 ∷ 2 ∷ [])
    ∷ row (Ok Nobody) (2 ∷ 0 ∷ [])
    ∷ row (Err WrongLength) (10 ∷ 0 ∷ [])
    ∷ row (Err WrongDataLength) (11 ∷ 0 ∷ [])
    ∷ row (Err WrongType) (12 ∷ 0 ∷ [])
    ∷ row (Err NoSource) (13 ∷ 0 ∷ [])
    ∷ row (Err NoDestination) (14 ∷ 0 ∷ [])
    ∷ row (Err ResponseToMany) (15 ∷ 0 ∷ [])
    ∷ row (Err Unsound) (16 ∷ 0 ∷ [])
    ∷ row (Err NoRoom) (17 ∷ 0 ∷ [])
    ∷ row (Err NotServed) (18 ∷ 0 ∷ [])
    ∷ row (Err NoCopy) (19 ∷ 0 ∷ [])
    ∷ row (Err OutOfRange) (20 ∷ 0 ∷ [])
    ∷ row (Err AlreadyAdmitted) (21 ∷ 0 ∷ [])
    ∷ row (Err NoFreeRecord) (22 ∷ 0 ∷ [])
    ∷ row (Err NotAdmitted) (23 ∷ 0 ∷ [])
    ∷ []

-- Every row, by what it is about: where one fails, the check names its table
pub record AllRows : Type 0 where
  pub outcomes : AsTold numbered outcomes
  pub paper : AsTold answer_to paper
  pub matching : AsTold answer_to delivery.matching
  pub binding : AsTold answer_to delivery.binding
  pub addressing : AsTold answer_to delivery.addressing
  pub requests : AsTold answer_to delivery.requests
  pub responses : AsTold answer_to delivery.responses
  pub unreadable : AsTold answer_to refusals.unreadable
  pub sources : AsTold answer_to refusals.sources
  pub destinations : AsTold answer_to refusals.destinations
  pub responses-to_many : AsTold answer_to refusals.responses-to_many
  pub not-served : AsTold answer_to refusals.not-served
  pub room : AsTold answer_to refusals.room
  pub order : AsTold answer_to refusals.order
  pub table-lengths : AsTold answer_to unsound.table-lengths
  pub fields : AsTold answer_to unsound.fields
  pub references : AsTold answer_to unsound.references
  pub sound : AsTold answer_to unsound.sound
  pub add_bind_rows : AsTold answer_to binds.add_bind_rows
  pub remove_binds : AsTold answer_to binds.remove_binds
  pub create_group_rows : AsTold answer_to groups.create_group_rows
  pub delete_group_rows : AsTold answer_to groups.delete_group_rows
  pub add_to_group_rows : AsTold answer_to groups.add_to_group_rows
  pub remove_from_group_rows : AsTold answer_to groups.remove_from_group_rows
  pub get_group_info_rows : AsTold answer_to groups.get_group_info_rows
  pub payload-lengths : AsTold answer_to commands.payload-lengths
  pub length_first : AsTold answer_to commands.length_first
  pub clients : AsTold answer_to commands.clients
  pub rights : AsTold answer_to commands.rights
  pub reads : AsTold reading calls.reads
  pub copies : AsTold calls.copy_of calls.copies
  pub admissions : AsTold calls.admit_of calls.admissions
  pub releases : AsTold calls.release_of calls.releases
  pub units_with_gaps : AsTold answer_to units.units_with_gaps
  pub gaps_in_commands : AsTold answer_to units.gaps_in_commands
  pub existing_by_history : AsTold units.exists_after units.existing_by_history
  pub sets_of_a-run : AsTold octets_only units.sets_of_a-run
  pub carried-over : AsTold units.carry_of units.carried-over
  pub not_carried : AsTold units.carry_of units.not_carried
  pub any-matches : AsTold answer_to scenes.any-matches
  pub next_to_any : AsTold answer_to scenes.next_to_any
  pub scene_recipients : AsTold answer_to scenes.scene_recipients
  pub add-any : AsTold answer_to scenes.add-any
  pub remove_any : AsTold answer_to scenes.remove_any
  pub release-any : AsTold calls.release_of scenes.release-any
  pub unsound-any : AsTold answer_to scenes.unsound-any
  pub linked_by_history : AsTold scenes.linked_after scenes.linked_by_history
  pub start_session_rows : AsTold answer_to sessions.start_session_rows
  pub end_session_rows : AsTold answer_to sessions.end_session_rows
  pub closings : AsTold answer_to sessions.closings
  pub released-sessions : AsTold calls.release_of sessions.released-sessions
  pub unsound-sessions : AsTold answer_to sessions.unsound-sessions
  pub not-admitted-unsound : AsTold calls.admit_of sessions.not-admitted-unsound
  pub not-released-unsound : AsTold calls.release_of sessions.not-released-unsound
  pub sound-sessions : AsTold answer_to sessions.sound-sessions
  pub admitted-sessions : AsTold calls.admit_of sessions.admitted-sessions
  pub by_index : AsTold answer_to entries.by_index
  pub by_address : AsTold answer_to entries.by_address
  pub without_session : AsTold answer_to entries.without_session
  pub within_session : AsTold answer_to entries.within_session
  pub no_more_than_fit : AsTold answer_to entries.no_more_than_fit
  pub reason_numbers : AsTold reasons.numbered reasons.reasons
  pub each-reason : AsTold answer_to reasons.each-reason
  pub first_given : AsTold answer_to reasons.first_given
  pub first_of-two : AsTold reasons.fault_of reasons.first_of-two
  pub not-explained : AsTold answer_to reasons.not-explained

pub as_told : AllRows
unfolding whole read_back reason_back
as_told = record {
  outcomes = refl;
  paper = refl;
  matching = refl;
  binding = refl;
  addressing = refl;
  requests = refl;
  responses = refl;
  unreadable = refl;
  sources = refl;
  destinations = refl;
  responses-to_many = refl;
  not-served = refl;
  room = refl;
  order = refl;
  table-lengths = refl;
  fields = refl;
  references = refl;
  sound = refl;
  add_bind_rows = refl;
  remove_binds = refl;
  create_group_rows = refl;
  delete_group_rows = refl;
  add_to_group_rows = refl;
  remove_from_group_rows = refl;
  get_group_info_rows = refl;
  payload-lengths = refl;
  length_first = refl;
  clients = refl;
  rights = refl;
  reads = refl;
  copies = refl;
  admissions = refl;
  releases = refl;
  units_with_gaps = refl;
  gaps_in_commands = refl;
  existing_by_history = refl;
  sets_of_a-run = refl;
  carried-over = refl;
  not_carried = refl;
  any-matches = refl;
  next_to_any = refl;
  scene_recipients = refl;
  add-any = refl;
  remove_any = refl;
  release-any = refl;
  unsound-any = refl;
  linked_by_history = refl;
  start_session_rows = refl;
  end_session_rows = refl;
  closings = refl;
  released-sessions = refl;
  unsound-sessions = refl;
  not-admitted-unsound = refl;
  not-released-unsound = refl;
  sound-sessions = refl;
  admitted-sessions = refl;
  by_index = refl;
  by_address = refl;
  without_session = refl;
  within_session = refl;
  no_more_than_fit = refl;
  reason_numbers = refl;
  each-reason = refl;
  first_given = refl;
  first_of-two = refl;
  not-explained = refl;
}
