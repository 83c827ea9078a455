-- A reason in words (document 02, request 6), as ASCII octets.
use Rattle.std.specs.Prelude.{List, [], ◌++◌, ℕ, Option, None, Some}
use Rattle.words.specs.Reasons.{reason_number, reason_octet}
use Rattle.rules.specs.Types.{Reason, PayloadLength, NoSourceDevice, NoSourceUnit, DestinationUnitFF, NoDestinationDevice, NoDestinationUnit}
use Rattle.rules.specs.Types.{NoGroup, BoundToItself, AlreadyPresent}
use Rattle.writing.specs.Writing.{ascii, line, field}

abbrev pub sentence : Reason → List ℕ
sentence PayloadLength = ascii "the bind is not eight octets long"
sentence NoSourceDevice = ascii "the source device is not admitted"
sentence NoSourceUnit = ascii "the source unit is not one of that device's"
sentence DestinationUnitFF = ascii "the destination unit is 0xFF, which is no unit"
sentence NoDestinationDevice = ascii "the destination device is not admitted"
sentence NoDestinationUnit = ascii "the destination unit is not one of that device's"
sentence NoGroup = ascii "there is no such group"
sentence BoundToItself = ascii "the unit is bound to itself"
sentence AlreadyPresent = ascii "this bind is there already"

-- reason, octet and sentence, on a line; nothing where nothing is wrong
unfoldable pub reason_text : Option Reason → List ℕ
reason_text None = []
reason_text (Some f) =
    line (field (ascii "reason ") (reason_number (Some f)) ++ field (ascii ", octet ") (reason_octet (Some f)) ++ ascii ": " ++ sentence f)
