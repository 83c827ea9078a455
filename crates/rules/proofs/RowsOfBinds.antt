-- Rows: Add Bind and the five Remove commands, their codes and what they change (document 01, Commands and codes).
use Rattle.words.specs.Basics.{List, [], ◌∷◌, ◌++◌, map, ℕ}
use Rattle.rules.specs.Frame.{Lent}
use Rattle.rules.specs.Calls.{Answer}
use Rattle.rules.proofs.Samples.{Row, run, filled, house, plain, a, b, c, d, e, five, full_of_binds, bind_management, Sent, grants, code, faulty}

-- Add Bind in the house without binds: stored as it came

abbrev pub stores : ℕ → Row Sent Answer
stores p = grants bind_management 0x01 (run 8 p) plain (house (run 8 p))

-- .. or refused, for this reason
abbrev pub wrong : ℕ → ℕ → Row Sent Answer
wrong reason p = faulty reason plain (run 8 p)

-- .. beside the bind from 3:01 to 4:02
abbrev beside-a : ℕ → Row Sent Answer
beside-a p = grants bind_management 0x01 (run 8 p) (house a) (house (a ++ run 8 p))

abbrev pub add_bind_rows : List (Row Sent Answer)
add_bind_rows =
    -- at a client interface, at the highest UID and at the lowest; to a group with unit 0xFE; from and to the concentrator; to another unit of its device,
    -- and to the group and unit that have its numbers
    map stores
    (0x00_03_01_02_00_00_04_02 ∷ 0x00_03_01_7F_FE_00_04_02 ∷ 0x00_03_01_00_00_00_04_02 ∷ 0x00_03_01_82_00_80_01_FE ∷ 0x00_00_00_82_00_00_04_02
    ∷ 0x00_03_01_82_00_00_00_00 ∷ 0x00_03_01_82_00_00_03_02 ∷ 0x00_01_01_82_00_80_01_01 ∷ [])
    -- no such source, no such unit of it or of the concentrator; destination unit 0xFF
    ++ wrong 2 0x00_06_00_82_00_00_04_02
    ∷ wrong 3 0x00_03_03_82_00_00_04_02
    ∷ wrong 3 0x00_00_01_82_00_00_04_02
    ∷ wrong 4 0x00_03_01_82_00_80_01_FF
    -- no such destination, also the device that has a group's number only; no such unit of it or of the concentrator; no such group, G'7FFF
    ∷ wrong 5 0x00_03_01_82_00_00_06_00
    ∷ wrong 5 0x00_03_01_82_00_00_02_00
    ∷ wrong 6 0x00_03_01_82_00_00_04_03
    ∷ wrong 6 0x00_03_01_82_00_00_00_01
    ∷ wrong 7 0x00_03_01_82_00_80_03_00
    ∷ wrong 7 0x00_03_01_82_00_FF_FF_00
    -- another UID, role, destination unit, source unit: not the same bind
    ∷ map beside-a (0x00_03_01_83_00_00_04_02 ∷ 0x00_03_01_02_00_00_04_02 ∷ 0x00_03_01_82_00_00_04_01 ∷ 0x00_03_02_82_00_00_04_02 ∷ [])
    -- another unit of a group bind; an addition takes the first free record
    ++ grants bind_management 0x01 (run 8 0x00_04_00_82_00_80_01_01) (house (d ++ filled 8 [] ++ a)) (house (d ++ run 8 0x00_04_00_82_00_80_01_01 ++ a))
    -- there already, also by its octets with the top bit; no free record: 0xFE, but 0x02 first
    ∷ faulty 9 (house (d ++ a)) a
    ∷ faulty 9 (house (d ++ a)) (run 8 0x80_03_01_82_00_00_04_02)
    ∷ code 0xFE bind_management 0x01 full_of_binds (run 8 0x00_03_01_82_00_00_05_01)
    ∷ faulty 9 full_of_binds a
    ∷ faulty 6 full_of_binds (run 8 0x00_03_01_82_00_00_05_02)
    ∷ []

abbrev pub gone : List ℕ
gone = filled 8 []

-- a Remove command by its member: what is left of the five
abbrev leaves : ℕ → List ℕ → List ℕ → Row Sent Answer
leaves member p rest = grants bind_management member p five (house rest)

-- .. where nothing matches
abbrev nothing : ℕ → List ℕ → Row Sent Answer
nothing member p = code 0x02 bind_management member five p

abbrev pub remove_binds : List (Row Sent Answer)
remove_binds =
    -- Remove Bind: the eight octets, octet 1's top bit ignored
    leaves 0x02 a (gone ++ b ++ c ++ d ++ e)
    ∷ leaves 0x02 (run 8 0x80_03_02_82_00_00_04_01) (a ++ gone ++ c ++ d ++ e)
    ∷ nothing 0x02 (run 8 0x00_03_01_82_00_00_04_01)
    -- by source device
    ∷ leaves 0x03 (run 2 0x00_03) (gone ++ gone ++ c ++ d ++ gone)
    ∷ leaves 0x03 (run 2 0x80_04) (a ++ b ++ gone ++ gone ++ e)
    ∷ nothing 0x03 (run 2 0x00_05)
    ∷ nothing 0x03 (run 2 0x01_03)
    -- by source device and unit
    ∷ leaves 0x04 (run 3 0x00_03_01) (gone ++ b ++ c ++ d ++ gone)
    ∷ leaves 0x04 (run 3 0x80_04_00) (a ++ b ++ c ++ gone ++ e)
    ∷ nothing 0x04 (run 3 0x00_03_00)
    -- by destination: a device, the group, the device of the group's number; no flag is ignored
    ∷ leaves 0x05 (run 2 0x00_04) (gone ++ gone ++ c ++ d ++ e)
    ∷ leaves 0x05 (run 2 0x80_01) (a ++ b ++ c ++ gone ++ e)
    ∷ leaves 0x05 (run 2 0x00_01) (a ++ b ++ c ++ d ++ gone)
    ∷ nothing 0x05 (run 2 0x80_04)
    -- by destination and unit
    ∷ leaves 0x06 (run 3 0x00_04_01) (a ++ gone ++ c ++ d ++ e)
    ∷ leaves 0x06 (run 3 0x80_01_00) (a ++ b ++ c ++ gone ++ e)
    ∷ nothing 0x06 (run 3 0x00_04_00)
    ∷ nothing 0x06 (run 3 0x00_01_00)
    ∷ nothing 0x06 (run 3 0x80_01_01)
    -- a free record is no match
    ∷ nothing 0x05 (run 2 0xFF_FF)
    ∷ nothing 0x06 (run 3 0xFF_FF_FF)
    -- among binds that differ in role, UID or flag alone: one goes, and by destination and unit three
    ∷ grants bind_management 0x02 a alike (house (gone ++ client ++ other ++ d ++ device))
    ∷ grants bind_management 0x02 d alike (house (a ++ client ++ other ++ gone ++ device))
    ∷ grants bind_management 0x06 (run 3 0x00_04_02) alike (house (gone ++ gone ++ gone ++ d ++ device))
    ∷ []
  where
    client : List ℕ
    client = run 8 0x00_03_01_02_00_00_04_02

    other : List ℕ
    other = run 8 0x00_03_01_83_00_00_04_02

    device : List ℕ
    device = run 8 0x00_04_00_82_00_00_01_00

    alike : Lent
    alike = house (a ++ client ++ other ++ d ++ device)
