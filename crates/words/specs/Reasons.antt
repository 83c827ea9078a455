-- The reasons of an Add Bind answered 0x02 (document 02, request 6): the paper's number of each, and the octet that goes with it.
use Rattle.std.specs.Prelude.{Bool, ℕ, eqb, Option, None, Some, Result, Ok, Err, ⊤}
use Rattle.words.specs.declared.Reason.{Reason}
use Rattle.words.specs.declared.Reason.TheVariants.{PayloadLength, NoSourceDevice, NoSourceUnit, DestinationUnitFF, NoDestinationDevice}
use Rattle.words.specs.declared.Reason.TheVariants.{NoDestinationUnit, NoGroup, BoundToItself, AlreadyPresent}

abbrev pub reason_number : Option Reason → ℕ
reason_number None = 0
reason_number (Some PayloadLength) = 1
reason_number (Some NoSourceDevice) = 2
reason_number (Some NoSourceUnit) = 3
reason_number (Some DestinationUnitFF) = 4
reason_number (Some NoDestinationDevice) = 5
reason_number (Some NoDestinationUnit) = 6
reason_number (Some NoGroup) = 7
reason_number (Some BoundToItself) = 8
reason_number (Some AlreadyPresent) = 9

-- "the first octet of the payload concerned", counted from 1; 0 for its length, and where nothing is wrong
abbrev pub reason_octet : Option Reason → ℕ
reason_octet None = 0
reason_octet (Some PayloadLength) = 0
reason_octet (Some NoSourceDevice) = 1
reason_octet (Some NoSourceUnit) = 3
reason_octet (Some DestinationUnitFF) = 8
reason_octet (Some NoDestinationDevice) = 6
reason_octet (Some NoDestinationUnit) = 8
reason_octet (Some NoGroup) = 6
reason_octet (Some BoundToItself) = 6
reason_octet (Some AlreadyPresent) = 1

-- is nothing wrong?
unfoldable pub faultless : Option Reason → Bool
faultless f = eqb (reason_number f) 0

-- what a check tells: nothing, or what is wrong
abbrev pub fault_in : Result ⊤ Reason → Option Reason
fault_in (Ok x) = None
fault_in (Err f) = Some f
