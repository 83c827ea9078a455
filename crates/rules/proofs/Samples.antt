-- What rows are made of: the tables of a house, messages, and the answers that are due. All that is lent to be written is filled with 0xAA, so that an
-- octet written past those due shows. No definition of an answer is used to say what is due.
use Rattle.words.specs.Basics.{◌≡◌, List, [], ◌∷◌, ◌++◌, map, ℕ, zero, suc, ◌+◌, ◌-◌, ◌*◌, ◌/◌, ◌%◌, length, replicate}
use Rattle.words.proofs.Apart.{read_back, reason_back}
use Rattle.rules.specs.Frame.{Lent, nothing_lent, beside}
use Rattle.rules.specs.Calls.{message, Answer, answer, explaining}

-- Rows

-- what is asked, and the answer that is due
pub record Row (A B : Type 0) : Type 0 where
  pub asked : A
  pub due : B

abbrev pub row : {A B : Type 0} → A → B → Row A B
row a b = record { asked = a; due = b }

-- every row of a table comes out as it says
abbrev pub AsTold : {A B : Type 0} → (A → B) → List (Row A B) → Type 0
AsTold f rows = map (λ x. f x.asked) rows ≡ map (λ x. x.due) rows

-- Octets

-- the last n octets of a number, as the paper writes them down: `run 3 0x00_04_02`
abbrev pub run : ℕ → ℕ → List ℕ
run zero w = []
run (suc n) w = run n (w / 256) ++ w % 256 ∷ []

-- what is lent to be written: n octets that begin so
abbrev pub lending : ℕ → List ℕ → List ℕ
lending n written = written ++ replicate (n - length written) 0xAA

-- a table of n octets: these records, the others free
abbrev pub filled : ℕ → List ℕ → List ℕ
filled n t = t ++ replicate (n - length t) 0xFF

-- Sets of units, 32 octets each

-- these octets first, and no unit behind them
abbrev pub units : List ℕ → List ℕ
units s = s ++ replicate (32 - length s) 0x00

abbrev pub only_zero : List ℕ
only_zero = units (0x01 ∷ [])

abbrev pub zero-to_one : List ℕ
zero-to_one = units (0x03 ∷ [])

abbrev pub zero_to_two : List ℕ
zero_to_two = units (0x07 ∷ [])

abbrev pub zero_to_254 : List ℕ
zero_to_254 = replicate 31 0xFF ++ 0x7F ∷ []

-- a valance with three motors, units 1, 2 and 9; the same without unit 0
abbrev pub valance : List ℕ
valance = units (0x07 ∷ 0x02 ∷ [])

abbrev pub valance-without-zero : List ℕ
valance-without-zero = units (0x06 ∷ 0x02 ∷ [])

-- units 0 and 255
abbrev pub with_255 : List ℕ
with_255 = 0x01 ∷ replicate 30 0x00 ++ 0x80 ∷ []

-- A house: devices 1 (rights 0, units 0 and 1), 3 (1, 0 to 2), 4 (0, 0 to 2) and 5 (0, 0 and 1); groups 1 "S" and 2 without a name; members of group 1, by
-- falling device. Each of these tables has one free record.

-- a device's record: address, rights, an octet 0, units
abbrev pub known : ℕ → ℕ → List ℕ → List ℕ
known d rights us = run 2 d ++ rights ∷ 0x00 ∷ us

-- a table of n devices: these records, the others free
abbrev pub device-table : ℕ → List ℕ → List ℕ
device-table n ds = filled (n * 36) ds

abbrev pub D1 : List ℕ
D1 = known 1 0 zero-to_one

abbrev pub D3 : List ℕ
D3 = known 3 1 zero_to_two

abbrev pub D4 : List ℕ
D4 = known 4 0 zero_to_two

abbrev pub D5 : List ℕ
D5 = known 5 0 zero-to_one

abbrev pub devices : List ℕ
devices = device-table 5 (D1 ++ D3 ++ D4 ++ D5)

-- a group's record: its address, name length and name, padded with 0x00
abbrev pub named : ℕ → List ℕ → List ℕ
named g name = 0x00 ∷ g ∷ length name ∷ (name ++ replicate (13 - length name) 0x00)

abbrev pub groups : List ℕ
groups = filled 48 (named 1 (0x53 ∷ []) ++ named 2 [])

abbrev pub three_members : List ℕ
three_members = run 5 0x00_01_00_05_01 ++ run 5 0x00_01_00_04_02 ++ run 5 0x00_01_00_03_01

abbrev pub members : List ℕ
members = filled 20 three_members

-- a session table of three: these records, the others free
abbrev pub session_table : List ℕ → List ℕ
session_table ss = filled 6 ss

-- tables with other octets for sessions
abbrev pub with_sessions : List ℕ → Lent → Lent
with_sessions ss L = beside L L.devices L.binds L.groups L.members ss

-- tables in which these devices, two octets each, have a session
abbrev pub in_session_of : List ℕ → Lent → Lent
in_session_of ss L = with_sessions (session_table ss) L

-- tables that hold these octets, and no session
abbrev pub holding : List ℕ → List ℕ → List ℕ → List ℕ → Lent
holding ds bs gs ms = beside nothing_lent ds bs gs ms (session_table [])

-- the house with these binds in a table of six
abbrev pub house : List ℕ → Lent
house bs = holding devices (filled 48 bs) groups members

abbrev pub plain : Lent
plain = house []

-- .. and with five binds: 3:01 to 4:02, 3:02 to 4:01, 4:01 to 5:01, 4:00 to G'0001, 3:01 to 1:01, and a free record

abbrev pub a : List ℕ
a = run 8 0x00_03_01_82_00_00_04_02

abbrev pub b : List ℕ
b = run 8 0x00_03_02_82_00_00_04_01

abbrev pub c : List ℕ
c = run 8 0x00_04_01_82_00_00_05_01

abbrev pub d : List ℕ
d = run 8 0x00_04_00_82_00_80_01_00

abbrev pub e : List ℕ
e = run 8 0x00_03_01_82_00_00_01_01

abbrev pub five : Lent
five = house (a ++ b ++ c ++ d ++ e)

-- no free record among the binds, among the members

abbrev pub full_of_binds : Lent
full_of_binds = holding devices (a ++ d) groups members

abbrev pub full_of_members : Lent
full_of_members = holding devices (filled 48 []) groups three_members

-- Another house, whose addresses want both of their octets: devices 0x7FFE with unit 254, 0x1234 and 0x0034; groups 0x1234, whose name has any octets, and
-- 0x0034; members of group 0x1234 in no order
abbrev pub far_with : List ℕ → Lent
far_with bs =
    holding (known 0x7FFE 1 zero_to_254 ++ known 0x1234 0 zero_to_two ++ known 0x0034 0 zero_to_two) (filled 16 bs)
    (run 3 0x12_34_0D ++ run 2 0x00_FF ++ replicate 11 0x41 ++ named 0x34 [])
    (run 5 0x12_34_12_34_02 ++ run 5 0x12_34_00_34_01 ++ run 5 0x12_34_7F_FE_FE ++ run 5 0x00_34_00_34_02)

abbrev pub far : Lent
far = far_with []

-- Messages

-- who sends: device and unit

abbrev pub three-one : List ℕ
three-one = run 3 0x00_03_01

abbrev pub four-one : List ℕ
four-one = run 3 0x00_04_01

abbrev pub concentrator : List ℕ
concentrator = run 3 0x00_00_00

-- where to: type and address, unit

abbrev pub to_bind_address : List ℕ
to_bind_address = run 3 0x7F_FF_FF

abbrev pub to_group-one : List ℕ
to_group-one = run 3 0x80_01_FF

-- at which interface: type and UID

abbrev pub curtains : List ℕ
curtains = run 2 0x82_00

abbrev pub bind_management : List ℕ
bind_management = run 2 0x80_02

abbrev pub group_management : List ℕ
group_management = run 2 0x80_03

-- sender, destination, message type, interface, member, payload; App Ref 7
abbrev pub letter : List ℕ → List ℕ → ℕ → List ℕ → ℕ → List ℕ → List ℕ
letter from to type interface member p = from ++ to ++ run 3 0x00_00_07 ++ type ∷ interface ++ member ∷ run 2 (length p) ++ p

-- to the bind address from this unit, at this interface
abbrev pub request : List ℕ → List ℕ → List ℕ
request from interface = letter from to_bind_address 0x01 interface 0x01 []

-- What is sent, and what is due

pub record Sent : Type 0 where
  pub tables : Lent
  pub message : List ℕ
  pub reply : List ℕ
  pub list : List ℕ

abbrev pub answer_to : Sent → Answer
answer_to s = message s.tables s.message s.reply s.list

-- what is due: the outcome by its number and the count or length that goes with it, and every octet lent
abbrev pub told : ℕ → ℕ → Lent → List ℕ → List ℕ → Answer
told number count L r l = answer (read_back number count) L r l

-- .. with a reason, by its number
abbrev pub because : ℕ → Answer → Answer
because reason x = explaining x.outcome (reason_back reason) x.tables x.reply x.list

-- the reply and the list that are lent

abbrev pub reply : List ℕ
reply = lending 500 []

abbrev pub list : List ℕ
list = lending 33 []

abbrev pub sent : Lent → List ℕ → Sent
sent L m = record { tables = L; message = m; reply = reply; list = list }

-- this outcome, and nothing written
abbrev pub unchanged : Lent → ℕ → Answer
unchanged L outcome = told outcome 0 L reply list

-- handed on to these n units
abbrev pub goes : Lent → ℕ → ℕ → Answer
goes L n us = told 1 n L reply (lending 33 (run (3 * n) us))

-- answered with this payload: the tables that are left, and the reply to who sent the command
abbrev pub replied : Lent → List ℕ → List ℕ → ℕ → List ℕ → Answer
replied L to interface member p =
    told 0 (15 + length p) L
    (lending 500 (run 3 0x00_00_00 ++ to ++ run 4 0x00_00_07_03 ++ interface ++ member ∷ run 2 (length p) ++ p)) list

-- A command from 3:01 and its reply

-- to this interface, as this member, with this payload: from these tables to those, and what is answered
abbrev pub command : List ℕ → ℕ → List ℕ → Lent → Lent → List ℕ → Row Sent Answer
command interface member p before after answer =
    row (sent before (letter three-one concentrator 0x01 interface member p)) (replied after three-one interface member answer)

-- granted
abbrev pub grants : List ℕ → ℕ → List ℕ → Lent → Lent → Row Sent Answer
grants interface member p before after = command interface member p before after (0x00 ∷ [])

-- answered with a code, and nothing changed
abbrev pub code : ℕ → List ℕ → ℕ → Lent → List ℕ → Row Sent Answer
code c interface member L p = command interface member p L L (c ∷ [])

-- Add Bind, answered 0x02 for this reason
abbrev pub faulty : ℕ → Lent → List ℕ → Row Sent Answer
faulty reason L p =
    row (sent L (letter three-one concentrator 0x01 bind_management 0x01 p)) (because reason (replied L three-one bind_management 0x01 (0x02 ∷ [])))
