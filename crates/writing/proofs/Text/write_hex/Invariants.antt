-- What is left to write gives the digits.
use Rattle.words.specs.Basics.{flat_map, drop}
use Rattle.writing.specs.Writing.{hex_octet}
use Rattle.writing.proofs.Pieces.{Going}
use Rattle.writing.proofs.Text.write_hex.Given as goal

abbrev pub invariant-loop-octet : goal.invariant-loop-octet
invariant-loop-octet l = Going (flat_map hex_octet l.s) l.fn.self (flat_map hex_octet (drop l.octet-index l.s)) l.self
