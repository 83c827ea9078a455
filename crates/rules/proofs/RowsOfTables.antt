-- Rows: tables that are not sound are refused (document 01, Tables: "Tables are sound if"; Outcomes, 16), each for one fault; and tables that are sound.
use Rattle.words.specs.Basics.{List, [], ◌∷◌, ◌++◌, map, ℕ, ◌+◌, replicate}
use Rattle.rules.specs.Frame.{Lent}
use Rattle.rules.specs.Calls.{Answer}
use Rattle.rules.proofs.Samples.{Row, row, run, lending, filled, units, only_zero, zero-to_one, zero_to_two, zero_to_254, with_255, known, device-table}
use Rattle.rules.proofs.Samples.{D3, D4, D5, named, devices, groups, members, holding, three-one, curtains, request, Sent, told, sent, reply, goes}

-- the house with one more record, or with other octets, in one table

abbrev with_devices : List ℕ → Lent
with_devices ds = holding ds [] groups members

abbrev with_record : List ℕ → Lent
with_record r = with_devices (D3 ++ D4 ++ D5 ++ r)

abbrev with_device : ℕ → ℕ → List ℕ → Lent
with_device d rights us = with_record (known d rights us)

abbrev with_binds : List ℕ → Lent
with_binds bs = holding devices bs groups members

abbrev with_bind : ℕ → Lent
with_bind b = with_binds (run 8 b)

abbrev with_groups : List ℕ → Lent
with_groups gs = holding devices [] gs members

abbrev with_group : List ℕ → Lent
with_group g = with_groups (named 1 (0x53 ∷ []) ++ g)

abbrev with_members : List ℕ → Lent
with_members ms = holding devices [] groups ms

abbrev with_member : ℕ → Lent
with_member m = with_members (run 5 0x00_01_00_05_01 ++ run 5 m)

-- "each length is a multiple of its record size and within the limit": one octet more, one record more than the limit
abbrev lengths : List Lent
lengths =
    with_devices (devices ++ 0xFF ∷ [])
    ∷ with_binds (filled 9 [])
    ∷ with_groups (groups ++ 0xFF ∷ [])
    ∷ with_members (members ++ 0xFF ∷ [])
    ∷ with_devices (device-table 65 devices)
    ∷ with_binds (filled (8 + 512) [])
    ∷ with_groups (filled (16 + 256) groups)
    ∷ with_members (filled (5 + 640) members)
    ∷ []

-- "its fields in range"; "no address is there twice in devices or groups"
abbrev devices-and-groups : List Lent
devices-and-groups =
    -- a device D'0000, D'7FFF, with the top bit; rights 2; D'0003 again
    with_device 0 1 zero_to_two
    ∷ with_device 0x7FFF 0 zero_to_two
    ∷ with_device 0x8006 0 zero_to_two
    ∷ with_device 6 2 zero_to_two
    ∷ with_device 3 0 zero-to_one
    -- octet 4 not 0; unit 0 not set, with units 1 and 2 and with unit 7; no unit at all; unit 255 set, with unit 0 and with every other
    ∷ with_record (run 4 0x00_06_00_01 ++ zero_to_two)
    ∷ with_record (run 4 0x00_06_00_80 ++ zero_to_two)
    ∷ with_device 6 0 (units (0x06 ∷ []))
    ∷ with_device 6 0 (units (0x80 ∷ []))
    ∷ with_device 6 0 (units [])
    ∷ with_device 6 0 with_255
    ∷ with_device 6 0 (replicate 32 0xFF)
    -- a record that begins with 0xFF and is not free
    ∷ with_record (replicate 35 0xFF ++ 0xFE ∷ [])
    -- a group G'0000, G'7FFF, with the top bit; a name of 14; padding 0x01 behind a name of 12, far behind one of 1, and for a name of 0; G'0001 again;
    -- not free
    ∷ map with_group
    (named 0 []
    ∷ (run 2 0x7F_FF ++ replicate 14 0x00)
    ∷ (run 2 0x80_02 ++ replicate 14 0x00)
    ∷ (run 3 0x00_02_0E ++ replicate 13 0x41)
    ∷ (run 3 0x00_02_0C ++ replicate 12 0x41 ++ 0x01 ∷ [])
    ∷ (run 4 0x00_02_01_41 ++ replicate 11 0x00 ++ 0x01 ∷ [])
    ∷ (run 4 0x00_02_00_01 ++ replicate 12 0x00)
    ∷ named 1 []
    ∷ (replicate 15 0xFF ++ 0x00 ∷ [])
    ∷ [])

-- "no used record twice in binds or members; each device and unit named exists; each group named exists; each bind meets the field rules of Add Bind"
abbrev binds-and-members : List Lent
binds-and-members =
    -- octet 1 with its top bit; no such source, no such unit of it; destination unit 0xFF; no such destination, no such group; itself;
    -- unit 1 of the concentrator, as source and as destination; not free
    map with_bind
    (0x80_03_01_82_00_00_04_02 ∷ 0x00_06_00_82_00_00_04_02 ∷ 0x00_03_03_82_00_00_04_02 ∷ 0x00_03_01_82_00_80_01_FF
    ∷ 0x00_03_01_82_00_00_05_02 ∷ 0x00_03_01_82_00_80_03_00 ∷ 0x00_03_01_82_00_00_03_01 ∷ 0x00_00_01_82_00_00_04_02 ∷ 0x00_03_01_82_00_00_00_01
    ∷ 0xFF_FF_FF_FF_FF_FF_FF_FE ∷ [])
    -- a bind twice
    ++ with_binds (run 8 0x00_03_01_82_00_00_04_02 ++ filled 8 [] ++ run 8 0x00_03_01_82_00_00_04_02)
    -- no such group, also with the top bit; no such device, D'7FFF, no such unit, unit 1 of the concentrator; a member twice; not free
    ∷ map with_member
    (0x00_03_00_04_00 ∷ 0x80_01_00_04_00 ∷ 0x00_01_00_06_00 ∷ 0x00_01_7F_FF_00 ∷ 0x00_01_00_04_03 ∷ 0x00_01_00_00_01 ∷ 0x00_01_00_05_01
    ∷ 0xFF_FF_FF_FF_00 ∷ [])

-- with a list that is long enough for each of them
abbrev list : List ℕ
list = lending 400 []

abbrev unsound : Lent → Row Sent Answer
unsound L = row (record { tables = L; message = request three-one curtains; reply = reply; list = list }) (told 16 0 L reply list)

abbrev pub table-lengths : List (Row Sent Answer)
table-lengths = map unsound lengths

abbrev pub fields : List (Row Sent Answer)
fields = map unsound devices-and-groups

abbrev pub references : List (Row Sent Answer)
references = map unsound binds-and-members

-- sound: "D'0000 allowed in binds and members"; unit 254 and D'7FFE, a name of 13 and G'7FFE; binds that differ in unit, role or UID alone; a unit in two
-- groups, two units of a device in one; from a unit to another of its device
abbrev pub sound : List (Row Sent Answer)
sound =
    row (sent hub-bound (request three-one curtains)) (goes hub-bound 1 0x00_00_00)
    ∷ row (sent many (request three-one curtains)) (goes many 5 0x00_00_00_00_03_02_00_04_00_00_04_01_00_04_02)
    ∷ []
  where
    hub-bound : Lent
    hub-bound = holding devices (run 8 0x00_03_01_82_00_00_00_00) groups (run 5 0x00_01_00_00_00)

    many : Lent
    many =
        holding (D3 ++ known 4 1 zero_to_254 ++ known 0x7FFE 0 only_zero)
        (run 8 0x00_03_01_82_00_80_01_FE ++ run 8 0x00_03_01_82_00_80_01_00 ++ run 8 0x00_03_01_82_00_00_04_02 ++ run 8 0x00_03_01_02_00_00_04_02
        ++ run 8 0x00_03_01_83_00_00_04_02 ++ run 8 0x00_03_01_82_00_00_03_02)
        (run 3 0x00_01_0D ++ replicate 13 0x41 ++ run 3 0x7F_FE_00 ++ replicate 13 0x00)
        (run 5 0x00_01_00_04_00 ++ run 5 0x00_01_00_04_01 ++ run 5 0x7F_FE_00_04_01 ++ run 5 0x00_01_00_00_00)
