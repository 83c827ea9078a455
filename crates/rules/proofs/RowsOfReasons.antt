-- Rows: why an Add Bind is answered 0x02 (document 02, request 6): each of the nine reasons with its octet, which of two is given, and where none is.
use Rattle.std.specs.Prelude.{Option, None, Some}
use Rattle.words.specs.Basics.{Bool, true, false, List, [], ◌∷◌, ◌++◌, map, ℕ}
use Rattle.words.specs.Reasons.{reason_number, reason_octet}
use Rattle.rules.specs.Types.{Reason, PayloadLength, NoSourceDevice, NoSourceUnit, DestinationUnitFF, NoDestinationDevice, NoDestinationUnit}
use Rattle.rules.specs.Types.{NoGroup, BoundToItself, AlreadyPresent, Devices, Groups}
use Rattle.rules.specs.Frame.{tables}
use Rattle.rules.specs.Calls.{Answer}
use Rattle.rules.specs.Faults.{fault}
use Rattle.rules.proofs.Samples.{Row, row, run, plain, house, a, five, full_of_binds, four-one, concentrator, bind_management, group_management, letter}
use Rattle.rules.proofs.Samples.{Sent, sent, replied, grants, code, faulty}

-- The list of reasons: each with its number and its octet

abbrev pub numbered : Option Reason → List ℕ
numbered f = reason_number f ∷ reason_octet f ∷ []

abbrev pub reasons : List (Row (Option Reason) (List ℕ))
reasons =
    row None (0 ∷ 0 ∷ [])
    ∷ row (Some PayloadLength) (1 ∷ 0 ∷ [])
    ∷ row (Some NoSourceDevice) (2 ∷ 1 ∷ [])
    ∷ row (Some NoSourceUnit) (3 ∷ 3 ∷ [])
    ∷ row (Some DestinationUnitFF) (4 ∷ 8 ∷ [])
    ∷ row (Some NoDestinationDevice) (5 ∷ 6 ∷ [])
    ∷ row (Some NoDestinationUnit) (6 ∷ 8 ∷ [])
    ∷ row (Some NoGroup) (7 ∷ 6 ∷ [])
    ∷ row (Some BoundToItself) (8 ∷ 6 ∷ [])
    ∷ row (Some AlreadyPresent) (9 ∷ 1 ∷ [])
    ∷ []

-- Add Bind in the house with the bind from 3:01 to 4:02, for this reason
abbrev gives : ℕ → List ℕ → Row Sent Answer
gives reason p = faulty reason (house a) p

-- one fault alone, where that can be: a device that is not there has no unit either
abbrev pub each-reason : List (Row Sent Answer)
each-reason =
    gives 1 (run 7 0x00_03_01_82_00_00_04)
    ∷ gives 1 (run 9 0x00_03_01_82_00_00_05_01_00)
    ∷ gives 1 []
    ∷ gives 2 (run 8 0x00_06_FF_82_00_00_04_02)
    ∷ gives 3 (run 8 0x00_03_03_82_00_00_04_02)
    ∷ gives 4 (run 8 0x00_03_01_82_00_80_01_FF)
    ∷ gives 5 (run 8 0x00_03_01_82_00_00_06_00)
    ∷ gives 6 (run 8 0x00_03_01_82_00_00_04_03)
    ∷ gives 7 (run 8 0x00_03_01_82_00_80_03_00)
    ∷ gives 8 (run 8 0x00_03_01_82_00_00_03_01)
    ∷ gives 9 a
    -- "D'0000 always exists": as source with another unit than 0, as destination likewise
    ∷ gives 3 (run 8 0x00_00_01_82_00_00_04_02)
    ∷ gives 6 (run 8 0x00_03_01_82_00_00_00_01)
    -- the top bit of the source plays no part
    ∷ gives 2 (run 8 0x80_06_00_82_00_00_04_02)
    ∷ gives 3 (run 8 0x80_03_03_82_00_00_04_02)
    ∷ gives 8 (run 8 0x80_03_01_82_00_00_03_01)
    ∷ []

-- "The first that holds is given.": two faults, and more
abbrev pub first_given : List (Row Sent Answer)
first_given =
    -- the length and each other: nothing else is asked of a payload of another length, also where the bind in its first eight octets is there
    map (λ p. gives 1 (run 9 p))
    (0x00_06_00_82_00_00_04_02_00 ∷ 0x00_03_03_82_00_00_04_02_00 ∷ 0x00_03_01_82_00_00_04_FF_00 ∷ 0x00_03_01_82_00_00_06_00_00
    ∷ 0x00_03_01_82_00_00_04_03_00 ∷ 0x00_03_01_82_00_80_03_00_00 ∷ 0x00_03_01_82_00_00_03_01_00 ∷ 0x00_03_01_82_00_00_04_02_00 ∷ [])
    -- 2 and 3: a device that is not there has no unit either; 2 and each of those behind
    ++ map (λ p. gives 2 (run 8 p))
    (0x00_06_09_82_00_00_04_02 ∷ 0x00_06_09_82_00_00_04_FF ∷ 0x00_06_00_82_00_00_06_00 ∷ 0x00_06_00_82_00_00_04_03 ∷ 0x00_06_00_82_00_80_03_00 ∷ [])
    -- 3 and 4, 3 and those behind
    ++ map (λ p. gives 3 (run 8 p))
    (0x00_03_03_82_00_00_04_FF ∷ 0x00_03_03_82_00_00_06_00 ∷ 0x00_03_03_82_00_00_03_03 ∷ 0x00_03_03_82_00_80_03_00 ∷ [])
    -- 4 and 5, 4 and 6, 4 and 7
    ++ map (λ p. gives 4 (run 8 p)) (0x00_03_01_82_00_00_06_FF ∷ 0x00_03_01_82_00_00_04_FF ∷ 0x00_03_01_82_00_80_03_FF ∷ [])
    -- 5 and 6: a device that is not there has no unit either; 5 and 8: any device is no destination, though the numbers are those of the source
    ++ map (λ p. gives 5 (run 8 p)) (0x00_03_01_82_00_00_06_09 ∷ 0x7F_FF_01_82_00_7F_FF_01 ∷ [])
    -- 6 and 7, 7 and 8 exclude each other: a destination is a unit or a group. A unit that is not there, whose device's number is no group's; a group that is
    -- not there, whose number and unit are the source's, a device's, and no device's
    ++ gives 6 (run 8 0x00_03_01_82_00_00_05_02)
    ∷ map (λ p. gives 7 (run 8 p)) (0x00_03_01_82_00_80_03_01 ∷ 0x00_03_01_82_00_80_04_02 ∷ 0x00_03_01_82_00_80_06_00 ∷ [])

-- No bind of sound tables has a fault, so that 8 and 9 do not meet there; the chain by itself, of a bind that would be there, gives the first

pub record Asked : Type 0 where
  pub whole : Bool
  pub bind : ℕ
  pub new : Bool

abbrev asked : Bool → ℕ → Bool → Asked
asked w b n = record { whole = w; bind = b; new = n }

abbrev pub fault_of : Asked → Option Reason
fault_of x = fault x.whole (tables plain Devices) (tables plain Groups) (run 8 x.bind) x.new

abbrev pub first_of-two : List (Row Asked (Option Reason))
first_of-two =
    row (asked true 0x00_03_01_82_00_00_03_01 false) (Some BoundToItself)
    ∷ row (asked true 0x00_03_01_82_00_80_03_00 false) (Some NoGroup)
    ∷ row (asked true 0x00_03_01_82_00_00_04_03 false) (Some NoDestinationUnit)
    ∷ row (asked true 0x00_06_00_82_00_00_04_02 false) (Some NoSourceDevice)
    ∷ row (asked false 0x00_03_01_82_00_00_04_02 false) (Some PayloadLength)
    ∷ row (asked true 0x00_03_01_82_00_00_04_02 false) (Some AlreadyPresent)
    ∷ row (asked true 0x00_03_01_82_00_00_04_02 true) None
    ∷ []

-- "With any other code or outcome reason and octet are 0.": 0x00, 0xFE, 0x01 also where a fault is there, and 0x02 of another command. The rows of the other
-- files say the same of all their answers.
abbrev pub not-explained : List (Row Sent Answer)
not-explained =
    grants bind_management 0x01 (run 8 0x00_03_01_82_00_00_05_01) (house a) (house (a ++ run 8 0x00_03_01_82_00_00_05_01))
    ∷ code 0xFE bind_management 0x01 full_of_binds (run 8 0x00_03_01_82_00_00_05_01)
    ∷ map without-rights ([] ∷ run 8 0x00_06_00_82_00_00_04_02 ∷ run 8 0x00_03_01_82_00_00_04_FF ∷ a ∷ [])
    ++ code 0x02 bind_management 0x02 five (run 8 0x00_06_00_82_00_00_04_02)
    ∷ code 0x02 group_management 0x03 five (run 5 0x00_03_00_05_01)
    ∷ []
  where
    without-rights : List ℕ → Row Sent Answer
    without-rights p = row (sent five (letter four-one concentrator 0x01 bind_management 0x01 p)) (replied five four-one bind_management 0x01 (0x01 ∷ []))
