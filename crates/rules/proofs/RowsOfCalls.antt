-- Rows: reading, copying, and the two calls of the host (document 01, Outcomes), each with every outcome of its own.
use Rattle.words.specs.Basics.{List, [], ◌∷◌, ◌++◌, map, ℕ, replicate}
use Rattle.words.specs.Names.{device}
use Rattle.words.proofs.Apart.{read_back}
use Rattle.rules.specs.Types.{Fields}
use Rattle.rules.specs.Frame.{Lent}
use Rattle.rules.specs.Message.{Reading, reading_of}
use Rattle.rules.specs.Copy.{CopyAnswer, copy_answer, copy}
use Rattle.rules.specs.Host.{HostAnswer, host_answer, admit, release}
use Rattle.rules.proofs.Samples.{Row, row, run, lending, filled, units, only_zero, zero-to_one, zero_to_two, zero_to_254, valance, valance-without-zero}
use Rattle.rules.proofs.Samples.{with_255, known, device-table, D1, D3, D4, D5, groups, members, holding, house, plain}

-- a message with every reserved bit set, transport 0xAA 0xBB, and three octets of payload
abbrev full : List ℕ
full = run 18 0x80_03_01_80_01_FF_AA_BB_07_02_82_00_05_FE_03_41_42_43

-- what cannot be read, and why: in the paper's order three faults, two and one; then others
abbrev unreadable : List (Row (List ℕ) ℕ)
unreadable =
    row (run 14 0x00_03_01_80_01_FF_00_00_07_11_82_00_05_01) 10
    ∷ row (run 15 0x00_03_01_80_01_FF_00_00_07_11_82_00_05_01_00) 11
    ∷ row (run 15 0x00_03_01_80_01_FF_00_00_07_11_82_00_05_00_00) 12
    ∷ row [] 10
    ∷ row (run 15 0x00_03_01_80_01_FF_00_00_07_01_82_00_05_01_E6 ++ replicate 486 0x00) 10
    ∷ row (run 15 0x00_03_01_80_01_FF_00_00_07_01_82_00_05_00_01) 11
    ∷ row (run 15 0x00_03_01_80_01_FF_00_00_07_00_82_00_05_00_00) 12
    ∷ []

-- fields, in the message's order; the payload begins at octet 16, and is said to begin at 0 where there is none
abbrev fields : ℕ → ℕ → ℕ → ℕ → ℕ → ℕ → ℕ → ℕ → ℕ → ℕ → ℕ → ℕ → Fields
fields d u t to unit ref type i id m n at =
    record {
      source = device d;
      source_unit = u;
      address_type = t;
      destination = to;
      destination_unit = unit;
      app_ref = ref;
      message_type = type;
      interface_type = i;
      uid = id;
      member = m;
      data_length = n;
      payload = at;
    }

-- the outcome's number, and the fields
abbrev read : ℕ → Fields → Reading
read number f = reading_of (read_back number 0) f

-- "Reading alone: 10, 11, 12 with every field 0, else 0 with the fields and where the payload begins (octet 16)."
abbrev pub reads : List (Row (List ℕ) Reading)
reads =
    row full (read 0 (fields 3 1 1 1 0xFF 7 0x02 1 0x0200 5 3 16))
    -- every bit of every field, set in one of these two
    ∷ row (run 15 0xA5_5A_96_C3_69_87_FF_00_E1_0B_D2_B4_78_FE_00) (read 0 (fields 0x255A 0x96 1 0x4369 0x87 0xE1 0x0B 1 0x52B4 0x78 0 16))
    ∷ row (run 15 0x5A_A5_69_3C_96_78_00_FF_1E_04_2D_4B_87_00_00) (read 0 (fields 0x5AA5 0x69 0 0x3C96 0x78 0x1E 4 0 0x2D4B 0x87 0 16))
    ∷ map (λ x. row x.asked (read x.due (fields 0 0 0 0 0 0 0 0 0 0 0 0))) unreadable

-- a copy into this room for a unit of a device
pub record Copying : Type 0 where
  pub message : List ℕ
  pub room : List ℕ
  pub to : ℕ
  pub unit : ℕ

abbrev copying : List ℕ → ℕ → ℕ → ℕ → Copying
copying m room d u = record { message = m; room = lending room []; to = d; unit = u }

abbrev pub copy_of : Copying → CopyAnswer
copy_of c = copy c.message c.room (device c.to) c.unit

-- the outcome's number, the copy's length, and the room
abbrev copied : ℕ → ℕ → List ℕ → CopyAnswer
copied number length room = copy_answer (read_back number length) room

-- "room shorter than the message, device above 0x7FFE or unit 0xFF"
abbrev uncopied : ℕ → ℕ → ℕ → Row Copying CopyAnswer
uncopied room d u = row (copying full room d u) (copied 19 0 (lending room []))

-- "A copy equals the message but for octets 4 to 6: type 0, device, unit.": reserved bits and transport stay; of the room what is behind the copy
abbrev pub copies : List (Row Copying CopyAnswer)
copies =
    row (copying full 20 5 1) (copied 0 18 (lending 20 (run 18 0x80_03_01_00_05_01_AA_BB_07_02_82_00_05_FE_03_41_42_43)))
    ∷ row (copying full 18 0x7FFE 0xFE) (copied 0 18 (run 18 0x80_03_01_7F_FE_FE_AA_BB_07_02_82_00_05_FE_03_41_42_43))
    ∷ row (copying full 18 0 0) (copied 0 18 (run 18 0x80_03_01_00_00_00_AA_BB_07_02_82_00_05_FE_03_41_42_43))
    ∷ uncopied 17 5 1
    ∷ uncopied 20 0x7FFF 1
    ∷ uncopied 20 0x8005 1
    ∷ uncopied 20 5 0xFF
    -- what cannot be read is told before what cannot be copied
    ∷ map (λ x. row (copying x.asked 0 0x7FFF 0xFF) (copied x.due 0 [])) unreadable

-- The host's calls

-- the outcome's number, and the tables
abbrev pub hosted : ℕ → Lent → HostAnswer
hosted number L = host_answer (read_back number 0) L

-- admit these numbers to these tables
pub record Admitting : Type 0 where
  pub tables : Lent
  pub address : ℕ
  pub rights : ℕ
  pub units : List ℕ

abbrev pub admitting : Lent → ℕ → ℕ → List ℕ → Admitting
admitting L d r us = record { tables = L; address = d; rights = r; units = us }

abbrev pub admit_of : Admitting → HostAnswer
admit_of x = admit x.tables (device x.address) x.rights x.units

-- the devices of the house without the free record
abbrev four-devices : List ℕ
four-devices = D1 ++ D3 ++ D4 ++ D5

-- .. and this one
abbrev admits : ℕ → ℕ → List ℕ → Row Admitting HostAnswer
admits d r us = row (admitting plain d r us) (hosted 0 (holding (four-devices ++ known d r us) (filled 48 []) groups members))

abbrev pub not-admitted : Lent → ℕ → ℕ → List ℕ → ℕ → Row Admitting HostAnswer
not-admitted L d r us o = row (admitting L d r us) (hosted o L)

-- no free record; one that is cut off behind it, so that the tables are not sound

abbrev full_of_devices : Lent
full_of_devices = holding four-devices [] groups members

abbrev unsound : Lent
unsound = holding (four-devices ++ 0xFF ∷ []) [] groups members

-- the devices of the house, these members, and one of a group that is not there

abbrev grouped : List ℕ → Lent
grouped ms = holding (four-devices ++ device-table 1 []) [] groups ms

abbrev absent-group : Lent
absent-group = grouped (run 5 0x00_03_00_04_02)

abbrev pub admissions : List (Row Admitting HostAnswer)
admissions =
    admits 6 0 zero_to_two
    ∷ admits 2 1 only_zero
    ∷ admits 0x7FFE 0 zero_to_254
    -- with gaps: units 0, 1, 2 and 9; 0 and 254
    ∷ admits 6 0 valance
    ∷ admits 6 1 (0x01 ∷ replicate 30 0x00 ++ 0x40 ∷ [])
    -- 20: D'0000, D'7FFF, the top bit; rights 2; unit 0 not set, with units 1, 2 and 9, with unit 7 and with none; unit 255 set
    ∷ not-admitted plain 0 1 zero_to_two 20
    ∷ not-admitted plain 0x7FFF 1 zero_to_two 20
    ∷ not-admitted plain 0x8006 1 zero_to_two 20
    ∷ not-admitted plain 6 2 zero_to_two 20
    ∷ not-admitted plain 6 1 valance-without-zero 20
    ∷ not-admitted plain 6 1 (units (0x80 ∷ [])) 20
    ∷ not-admitted plain 6 1 (units []) 20
    ∷ not-admitted plain 6 1 with_255 20
    ∷ not-admitted plain 6 1 (replicate 32 0xFF) 20
    -- in the paper's order four faults, and then one less each: 16, 20, 21, 22
    ∷ not-admitted unsound 3 2 zero-to_one 16
    ∷ not-admitted full_of_devices 3 2 zero-to_one 20
    ∷ not-admitted full_of_devices 3 1 (units []) 20
    ∷ not-admitted full_of_devices 3 1 zero-to_one 21
    ∷ not-admitted full_of_devices 6 1 zero-to_one 22
    ∷ not-admitted plain 3 1 zero-to_one 21
    ∷ not-admitted absent-group 6 1 zero-to_one 16
    ∷ []

-- release this device from these tables
pub record Releasing : Type 0 where
  pub tables : Lent
  pub address : ℕ

abbrev pub releasing : Lent → ℕ → Releasing
releasing L d = record { tables = L; address = d }

abbrev pub release_of : Releasing → HostAnswer
release_of x = release x.tables (device x.address)

abbrev pub not-released : Lent → ℕ → ℕ → Row Releasing HostAnswer
not-released L d o = row (releasing L d) (hosted o L)

-- binds from and to device 4, from device 3 to device 5, to G'0001 and to D'0001

abbrev from-four : List ℕ
from-four = run 8 0x00_04_01_82_00_00_05_01

abbrev to_four : List ℕ
to_four = run 8 0x00_03_01_82_00_00_04_02

abbrev others : List ℕ
others = run 8 0x00_03_01_82_00_00_05_01 ++ run 8 0x00_03_01_82_00_80_01_00

abbrev to_one : List ℕ
to_one = run 8 0x00_03_01_82_00_00_01_01

abbrev bound : Lent
bound = house (from-four ++ to_four ++ others ++ to_one)

-- "Release takes the device, its members and all binds that name it as source or individual destination."
abbrev pub releases : List (Row Releasing HostAnswer)
releases =
    row (releasing bound 4) (hosted 0 (holding
    (D1 ++ D3 ++ device-table 1 [] ++ D5 ++ device-table 1 [])
    (filled 16 [] ++ others ++ to_one ++ filled 8 []) groups
    (run 5 0x00_01_00_05_01 ++ filled 5 [] ++ run 5 0x00_01_00_03_01 ++ filled 5 [])))
    -- D'0001 goes, and G'0001, its members and the bind to it stay
    ∷ row (releasing bound 1) (hosted 0 (holding (device-table 1 [] ++ D3 ++ D4 ++ D5 ++ device-table 1 [])
    (from-four ++ to_four ++ others ++ filled 16 []) groups members))
    -- its members in every group, and every unit of it
    ∷ row (releasing (grouped members_of-four) 4) (hosted 0 (holding (D1 ++ D3 ++ device-table 1 [] ++ D5 ++ device-table 1 []) [] groups (filled 15 [])))
    -- 23: no such device, the concentrator, a device with the top bit, D'FFFF, which has the octets of a free record
    ∷ not-released bound 6 23
    ∷ not-released bound 0 23
    ∷ not-released bound 0x8004 23
    ∷ not-released bound 0xFFFF 23
    -- 16 before 23
    ∷ not-released unsound 6 16
    ∷ not-released unsound 4 16
    ∷ not-released absent-group 4 16
    ∷ []
  where
    members_of-four : List ℕ
    members_of-four = run 5 0x00_01_00_04_02 ++ run 5 0x00_02_00_04_00 ++ filled 5 []
