-- How long the sentences are, and the lines that they make.
use Rattle.std.specs.Prelude.{None, Some}
use Rattle.words.specs.Basics.{◌≡◌, refl, ◌≤◌, arith, length}
use Rattle.rules.specs.Types.{Reason, PayloadLength, NoDestinationUnit}
use Rattle.writing.specs.Writing.{ascii, digit, decimal}
use Rattle.reason_text.specs.Saying.{sentence, reason_text}

pub sentence_short : (f : Reason) → length (sentence f) ≤ 48
sentence_short f = grind arith

-- lines as they are read; nothing where nothing is wrong

pub nothing : reason_text None ≡ ascii ""
unfolding reason_text
nothing = refl

pub length-line : reason_text (Some PayloadLength) ≡ ascii "reason 1, octet 0: the bind is not eight octets long\n"
unfolding reason_text decimal digit
length-line = refl

pub unit_line : reason_text (Some NoDestinationUnit) ≡ ascii "reason 6, octet 8: the destination unit is not one of that device's\n"
unfolding reason_text decimal digit
unit_line = refl
