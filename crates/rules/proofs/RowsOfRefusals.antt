-- Rows: when a message is refused (document 01, Outcomes). Of each the tables, the reply and the list keep every octet.
use Rattle.words.specs.Basics.{List, [], ◌∷◌, ◌++◌, map, flat_map, ℕ, replicate}
use Rattle.rules.specs.Frame.{Lent}
use Rattle.rules.specs.Calls.{Answer}
use Rattle.rules.proofs.Samples.{Row, row, run, lending, filled, devices, groups, members, holding, house, three-one, concentrator, to_bind_address}
use Rattle.rules.proofs.Samples.{to_group-one, curtains, bind_management, group_management, letter, Sent, told, sent, reply, list, unchanged}

abbrev plain : Lent
plain = house []

abbrev refused : List ℕ → ℕ → Row Sent Answer
refused m o = row (sent plain m) (unchanged plain o)

-- from this unit, to this destination, as this type

abbrev from_it : List ℕ → List ℕ
from_it from = letter from to_bind_address 0x01 curtains 0x01 []

abbrev to_it : List ℕ → List ℕ
to_it to = letter three-one to 0x01 curtains 0x01 []

abbrev typed : List ℕ → ℕ → List ℕ
typed to type = letter three-one to type curtains 0x01 []

-- from 3:01 to 4:02
abbrev bind : List ℕ
bind = run 8 0x00_03_01_82_00_00_04_02

-- 10, 11, 12
abbrev pub unreadable : List (Row Sent Answer)
unreadable =
    -- none, 14 and 501 octets
    refused [] 10
    ∷ refused (run 14 0x00_03_01_7F_FF_FF_00_00_07_01_82_00_01_00) 10
    ∷ refused (letter three-one to_bind_address 0x01 curtains 0x01 (replicate 486 0x00)) 10
    -- a data length one too low, one too high
    ∷ refused (run 16 0x00_03_01_7F_FF_FF_00_00_07_01_82_00_01_00_00_00) 11
    ∷ refused (run 16 0x00_03_01_7F_FF_FF_00_00_07_01_82_00_01_00_02_00) 11
    -- its ninth bit counts
    ∷ refused (run 15 0x00_03_01_7F_FF_FF_00_00_07_01_82_00_01_01_00) 11
    ∷ map (λ t. refused (typed to_bind_address t) 12) (0x00 ∷ 0x11 ∷ 0x12 ∷ 0x81 ∷ 0xFF ∷ [])

-- 13: no such device, no such unit of a device, of the concentrator; the bind address itself
abbrev pub sources : List (Row Sent Answer)
sources =
    map (λ from. refused (from_it from) 13) (run 3 0x00_06_00 ∷ run 3 0x00_03_03 ∷ run 3 0x00_00_01 ∷ run 3 0x7F_FF_FF ∷ [])
    -- with a command, and to a unit, to one that is not there, to a group
    ++ refused (letter (run 3 0x00_06_00) concentrator 0x01 bind_management 0x01 bind) 13
    ∷ refused (letter (run 3 0x00_03_03) concentrator 0x01 bind_management 0x01 bind) 13
    ∷ map (λ to. refused (letter (run 3 0x00_06_00) to 0x01 curtains 0x01 []) 13) (run 3 0x00_05_00 ∷ run 3 0x00_07_00 ∷ to_group-one ∷ [])

-- 14: no such device, the device of a group's number, no such unit, unit of the concentrator; D'7FFF with another unit; no such group, G'0000 with unit 0,
-- G'7FFF with unit 0xFF
abbrev pub destinations : List (Row Sent Answer)
destinations =
    map (λ to. refused (to_it to) 14)
    (run 3 0x00_06_00 ∷ run 3 0x00_02_00 ∷ run 3 0x00_05_02 ∷ run 3 0x00_00_01 ∷ run 3 0x7F_FF_00 ∷ run 3 0x7F_FF_FE
    ∷ run 3 0x80_03_FF ∷ run 3 0x80_00_00 ∷ run 3 0xFF_FF_FF ∷ [])

-- 15: each response type to the bind address, to a group, and to one that does not exist
abbrev pub responses-to_many : List (Row Sent Answer)
responses-to_many =
    flat_map (λ to. map (λ t. refused (typed to t) 15) (0x03 ∷ 0x05 ∷ 0x08 ∷ 0x0A ∷ 0x0D ∷ 0x10 ∷ [])) (to_bind_address ∷ to_group-one ∷ run 3 0x80_03_FF ∷ [])

-- a message to the concentrator, as this type, at this interface, with a member and a payload
abbrev asks : ℕ → List ℕ → ℕ → List ℕ → Row Sent Answer
asks type interface member p = refused (letter three-one concentrator type interface member p) 18

-- 18
abbrev pub not-served : List (Row Sent Answer)
not-served =
    -- Add Bind and Get Group Info as every type but 0x01 and 0x02
    map (λ t. asks t bind_management 0x01 bind) others
    ++ map (λ t. asks t group_management 0x05 (run 2 0x00_01)) others
    -- members that are no command
    ++ map (λ n. asks 0x01 bind_management n bind) (0x00 ∷ 0x0E ∷ 0x0F ∷ 0x81 ∷ 0x87 ∷ 0xFF ∷ [])
    ++ map (λ n. asks 0x01 group_management n (run 2 0x00_01)) (0x00 ∷ 0x06 ∷ 0x08 ∷ 0x85 ∷ 0xFF ∷ [])
    -- another interface, also one whose second octet is the same
    ++ map (λ i. asks 0x01 i 0x01 bind) (run 2 0x80_01 ∷ run 2 0x80_04 ∷ run 2 0x81_02 ∷ run 2 0x81_03 ∷ [])
  where
    others : List ℕ
    others = 0x03 ∷ 0x04 ∷ 0x05 ∷ 0x06 ∷ 0x07 ∷ 0x08 ∷ 0x09 ∷ 0x0A ∷ 0x0B ∷ 0x0C ∷ 0x0D ∷ 0x0E ∷ 0x0F ∷ 0x10 ∷ []

-- this reply and this list are lent
abbrev lent : Lent → List ℕ → List ℕ → List ℕ → ℕ → Row Sent Answer
lent L m r l o = row (record { tables = L; message = m; reply = r; list = l }) (told o 0 L r l)

abbrev no_records : Lent
no_records = holding [] [] [] []

-- 17: "reply under 500 octets, or recipient list under 3 × max(1, bind records + member records)"; six records and four, free ones counted
abbrev pub room : List (Row Sent Answer)
room =
    lent plain (from_it three-one) (lending 499 []) list 17
    ∷ lent plain (from_it three-one) reply (lending 29 []) 17
    ∷ lent plain (from_it three-one) reply (lending 30 []) 2
    ∷ lent no_records (from_it concentrator) reply (lending 2 []) 17
    ∷ lent no_records (from_it concentrator) reply (lending 3 []) 2
    -- a command wants both too
    ∷ lent plain (letter three-one concentrator 0x01 bind_management 0x01 bind) (lending 499 []) list 17
    ∷ lent plain (letter three-one concentrator 0x01 bind_management 0x01 bind) reply (lending 29 []) 17
    -- each length divided down: 9 and 15 octets of binds are one record, 6 and 9 of members one
    ∷ lent (holding [] (filled 9 []) [] []) (from_it concentrator) reply (lending 3 []) 16
    ∷ lent (holding [] [] [] (filled 6 [])) (from_it concentrator) reply (lending 3 []) 16
    ∷ lent (holding [] (filled 15 []) [] (filled 9 [])) (from_it concentrator) reply (lending 6 []) 16
    -- .. 7 octets of binds and 4 of members no record
    ∷ lent (holding [] (filled 7 []) [] (filled 4 [])) (from_it concentrator) reply (lending 2 []) 17
    ∷ lent (holding [] (filled 7 []) [] (filled 4 [])) (from_it concentrator) reply (lending 3 []) 16
    ∷ []

-- "Order for a message: 17, 16, 10, 11, 12, 13, 15, then 18 for D'0:U'0 or 14 for the rest.": from row to row one fault less, so that each has its own
-- fault and that of the next

abbrev cut_off : Lent
cut_off = holding (devices ++ 0xFF ∷ []) (filled 48 []) groups members

-- 14 octets with a data length of 256, type 0x11, from a device that is not there
abbrev all-wrong : List ℕ
all-wrong = run 14 0x00_06_00_80_03_FF_00_00_07_11_82_00_01_01

abbrev pub order : List (Row Sent Answer)
order =
    lent cut_off all-wrong (lending 499 []) list 17
    ∷ lent cut_off all-wrong reply list 16
    ∷ refused all-wrong 10
    ∷ refused (all-wrong ++ 0x00 ∷ []) 11
    ∷ refused (run 15 0x00_06_00_80_03_FF_00_00_07_11_82_00_01_00_00) 12
    ∷ refused (run 15 0x00_06_00_80_03_FF_00_00_07_03_82_00_01_00_00) 13
    ∷ refused (run 15 0x00_03_01_80_03_FF_00_00_07_03_82_00_01_00_00) 15
    ∷ refused (run 15 0x00_03_01_80_03_FF_00_00_07_01_82_00_01_00_00) 14
    -- to D'0:U'0, at an interface that is not served
    ∷ refused (run 15 0x00_06_00_00_00_00_00_00_07_03_82_00_01_00_00) 13
    ∷ refused (run 15 0x00_03_01_00_00_00_00_00_07_03_82_00_01_00_00) 18
    ∷ []
