-- `writing::Text::write_hex` meets its contract: each turn writes the digits of one octet, and in the end nothing is left. The lemmas on
-- parts of a list read what the loop goes over.
use Rattle.std.proofs.lemmas.Grind.{common_steps}
use Rattle.words.specs.Basics.{◌≡◌, ap, ◌<◌, ◌≤◌, arith, length, get_or, length-take}
use Rattle.writing.specs.Writing.{hex_octet}
use Rattle.writing.proofs.Pieces.{going_start, going_room, going_more, going_end, next_octet, no_octet, hex_length}
use Rattle.writing.proofs.Text.write_hex.Goals as goal

pub loop-octet-init : goal.loop-octet-init
loop-octet-init c = going_start (rw hex_length c.requires)

pub write_run-requires : goal.write_run-requires
write_run-requires c =
    let h : c.loop-octet.octet-index < length c.args.s.now = grind (arith, common_steps) in
    rw c.hex_octet.ensures (omega (arith, going_room c.loop-octet.invariant, ap length (next_octet c.args.s.now c.loop-octet.octet-index h)))

pub loop-octet-preserved : goal.loop-octet-preserved
loop-octet-preserved c =
    let h : c.loop-octet.octet-index < length c.args.s.now = grind (arith, common_steps) in
    let d : c.hex_octet.result ≡ hex_octet (get_or c.args.s.now c.loop-octet.octet-index 0) = grind (arith, common_steps) in
    going_more c.loop-octet.invariant (next_octet c.args.s.now c.loop-octet.octet-index h) (rw d at c.write_run.ensures)

pub returns : goal.returns
returns c =
    let h : length c.args.s.now ≤ c.loop-octet.octet-index = grind (arith, length-take) in
    going_end c.loop-octet.invariant (no_octet c.args.s.now c.loop-octet.octet-index h)
