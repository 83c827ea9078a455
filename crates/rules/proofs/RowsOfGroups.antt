-- Rows: the five commands of Group Management, their codes and what they change (document 01, Commands and codes).
use Rattle.words.specs.Basics.{List, [], ◌∷◌, ◌++◌, ℕ, zero, suc, ◌+◌, replicate}
use Rattle.rules.specs.Frame.{Lent}
use Rattle.rules.specs.Calls.{Answer}
use Rattle.rules.proofs.Samples.{Row, row, run, lending, filled, zero_to_254, known, devices, named, groups, three_members, holding, plain, a, b, c, e}
use Rattle.rules.proofs.Samples.{five, full_of_members, far, three-one, concentrator, group_management, letter, Sent, told, reply, list, sent, command}
use Rattle.rules.proofs.Samples.{grants, code}

-- the house with these groups and members
abbrev grouped : List ℕ → List ℕ → Lent
grouped gs ms = holding devices (filled 48 []) gs ms

-- Create Group: the groups that are left, and the address in the reply
abbrev creates : List ℕ → List ℕ → List ℕ → ℕ → Row Sent Answer
creates p before after g = command group_management 0x01 p (grouped before []) (grouped after []) (run 3 g)

abbrev no_group : ℕ → List ℕ → List ℕ → Row Sent Answer
no_group c gs p = code c group_management 0x01 (grouped gs []) p

abbrev two : List ℕ
two = named 1 (0x53 ∷ []) ++ named 2 []

-- a name of n octets
abbrev name : ℕ → List ℕ
name n = replicate n 0x41

abbrev pub create_group_rows : List (Row Sent Answer)
create_group_rows =
    -- the smallest address not in use, in the first free record; a name that is there, none, and one of 13 octets
    creates (run 2 0x01_53) (filled 48 (named 1 [] ++ filled 16 [])) (filled 48 (named 1 [] ++ named 2 (0x53 ∷ []))) 0x00_00_02
    ∷ creates (run 2 0x01_53) groups (two ++ named 3 (0x53 ∷ [])) 0x00_00_03
    ∷ creates (0x00 ∷ []) (filled 48 (named 3 [] ++ named 1 [])) (named 3 [] ++ named 1 [] ++ named 2 []) 0x00_00_02
    ∷ creates (0x0D ∷ name 13) (filled 16 [] ++ named 3 [] ++ named 2 []) (named 1 (name 13) ++ named 3 [] ++ named 2 []) 0x00_00_01
    -- 0xFE for a name of 14, and for no free record; but 0x02 first
    ∷ no_group 0xFE groups (0x0E ∷ name 14)
    ∷ no_group 0xFE two (run 2 0x01_53)
    ∷ no_group 0x02 groups (0x0E ∷ name 13)
    ∷ no_group 0x02 two (0x01 ∷ [])
    ∷ no_group 0x02 groups []
    ∷ []

-- Delete Group: the group, its members and the binds to it go, and no bind to the device of its number
abbrev pub delete_group_rows : List (Row Sent Answer)
delete_group_rows =
    deletes 0x00_01
    ∷ deletes 0x80_01
    ∷ code 0x02 group_management 0x02 five (run 2 0x00_03)
    ∷ code 0x02 group_management 0x02 five (run 2 0x7F_FF)
    ∷ code 0x02 group_management 0x02 five (run 2 0x01_01)
    -- members of another group, binds to it, and binds from the device of the group's number stay
    ∷ grants group_management 0x02 (run 2 0x00_01)
    (holding devices (to_one ++ to_one_too ++ others) groups (run 5 0x00_01_00_05_01 ++ other ++ run 5 0x00_01_00_04_02))
    (holding devices (filled 16 [] ++ others) (filled 16 [] ++ named 2 [] ++ filled 16 []) (filled 5 [] ++ other ++ filled 5 []))
    ∷ []
  where
    to_one : List ℕ
    to_one = run 8 0x00_03_01_82_00_80_01_00

    to_one_too : List ℕ
    to_one_too = run 8 0x00_03_01_82_00_80_01_01

    others : List ℕ
    others = run 8 0x00_03_01_82_00_80_02_00 ++ run 8 0x00_01_01_82_00_00_04_02

    other : List ℕ
    other = run 5 0x00_02_00_01_01

    deletes : ℕ → Row Sent Answer
    deletes g =
        grants group_management 0x02 (run 2 g) five
        (holding devices (filled 48 (a ++ b ++ c ++ filled 8 [] ++ e)) (filled 16 [] ++ named 2 [] ++ filled 16 []) (filled 20 []))

-- Add to Group and Remove from Group: the members that are left

abbrev joins : ℕ → List ℕ → Row Sent Answer
joins p after = grants group_management 0x03 (run 5 p) plain (grouped groups (three_members ++ after))

abbrev not-joined : ℕ → ℕ → Row Sent Answer
not-joined c p = code c group_management 0x03 plain (run 5 p)

abbrev pub add_to_group_rows : List (Row Sent Answer)
add_to_group_rows =
    -- top bits are ignored, and stored as 0; a unit in a second group; the concentrator
    joins 0x80_01_80_05_00 (run 5 0x00_01_00_05_00)
    ∷ joins 0x00_02_00_05_01 (run 5 0x00_02_00_05_01)
    ∷ joins 0x00_01_00_00_00 (run 5 0x00_01_00_00_00)
    -- no such group, G'7FFF; no such device, D'7FFF; no such unit, unit 0xFF; there already
    ∷ not-joined 0x02 0x00_03_00_05_00
    ∷ not-joined 0x02 0x7F_FF_00_05_00
    ∷ not-joined 0x02 0x00_01_00_06_00
    ∷ not-joined 0x02 0x00_01_7F_FF_00
    ∷ not-joined 0x02 0x00_01_00_05_02
    ∷ not-joined 0x02 0x00_01_00_05_FF
    ∷ not-joined 0x02 0x80_01_80_05_01
    -- no free record: 0xFE, but 0x02 first
    ∷ code 0xFE group_management 0x03 full_of_members (run 5 0x00_01_00_05_00)
    ∷ code 0x02 group_management 0x03 full_of_members (run 5 0x00_01_00_05_01)
    ∷ code 0x02 group_management 0x03 full_of_members (run 5 0x00_01_00_05_02)
    ∷ []

abbrev pub remove_from_group_rows : List (Row Sent Answer)
remove_from_group_rows =
    quits 0x00_01_00_04_02
    ∷ quits 0x80_01_80_04_02
    ∷ code 0x02 group_management 0x04 plain (run 5 0x00_02_00_04_02)
    ∷ code 0x02 group_management 0x04 plain (run 5 0x00_01_00_04_01)
    ∷ code 0x02 group_management 0x04 plain (run 5 0xFF_FF_FF_FF_FF)
    -- another unit of the device, and the unit in another group, stay
    ∷ grants group_management 0x04 (run 5 0x00_01_00_04_02) (grouped groups (run 5 0x00_01_00_04_02 ++ others)) (grouped groups (filled 5 [] ++ others))
    ∷ []
  where
    others : List ℕ
    others = run 5 0x00_01_00_04_01 ++ run 5 0x00_02_00_04_02

    quits : ℕ → Row Sent Answer
    quits p =
        grants group_management 0x04 (run 5 p) plain (grouped groups (filled 20 (run 5 0x00_01_00_05_01 ++ filled 5 [] ++ run 5 0x00_01_00_03_01)))

-- Get Group Info: name length, name, number of members, members by rising device and unit
abbrev pub get_group_info_rows : List (Row Sent Answer)
get_group_info_rows =
    command group_management 0x05 (run 2 0x00_01) plain plain (run 14 0x00_01_53_00_03_00_03_01_00_04_02_00_05_01)
    ∷ command group_management 0x05 (run 2 0x80_02) plain plain (run 4 0x00_00_00_00)
    ∷ code 0x02 group_management 0x05 plain (run 2 0x00_03)
    ∷ code 0x02 group_management 0x05 plain (run 2 0x01_01)
    -- addresses of two octets, any octets in a name, members in no order; type 0x02 and another App Ref
    ∷ row (sent far (run 15 0x7F_FE_FD_00_00_00_00_00_E1_02_80_03_05_00_02 ++ run 2 0x92_34))
    (told 0 41 far (lending 500 (run 15 0x00_00_00_7F_FE_FD_00_00_E1_03_80_03_05_00_1A ++ run 4 0x00_0D_00_FF ++ replicate 11 0x41
    ++ run 11 0x00_03_00_34_01_12_34_02_7F_FE_FE)) list)
    -- 90 members: a data length of 9 bits
    ∷ row (record { tables = crowd; message = letter three-one concentrator 0x01 group_management 0x05 (run 2 0x00_01); reply = reply; list = lending 300 [] })
    (told 0 290 crowd (lending 500 (run 15 0x00_00_00_00_03_01_00_00_07_03_80_03_05_01_13 ++ run 5 0x00_01_53_00_5A ++ units 90)) (lending 300 []))
    ∷ []
  where
    -- units 0 to n - 1 of device 3, and these as members of group 1
    units : ℕ → List ℕ
    units zero = []
    units (suc n) = units n ++ run 3 (0x00_03_00 + n)

    members_of_lem : ℕ → List ℕ
    members_of_lem zero = []
    members_of_lem (suc n) = members_of_lem n ++ run 5 (0x00_01_00_03_00 + n)

    crowd : Lent
    crowd = holding (known 3 1 zero_to_254) [] groups (members_of_lem 90)
