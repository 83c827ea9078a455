-- "A copy equals the message but for octets 4 to 6: type 0, device, unit." (document 01, Recipients)
use Rattle.std.specs.Prelude.{Bool, not, List, [], ◌∷◌, ◌++◌, ℕ, eqb, leb, length, Ok, Err}
use Rattle.std.proofs.lemmas.List.Edits.{sets}
use Rattle.words.specs.Names.{highest, not_a_unit}
use Rattle.rules.specs.Types.{DeviceAddress, Outcome, Done, NoCopy}
use Rattle.rules.specs.Lists.{ask, ◌&◌}
use Rattle.rules.specs.Octets.{octets, over}
use Rattle.rules.specs.Message.{reads}

unfoldable pub copied : List ℕ → DeviceAddress → ℕ → List ℕ
copied m d u = sets m 3 (octets d.0 ++ u ∷ [])

-- outcome 19: "room shorter than the message, device above 0x7FFE or unit 0xFF"
unfoldable pub copy_fits : List ℕ → List ℕ → DeviceAddress → ℕ → Bool
copy_fits m room d u = leb (length m) (length room) & leb d.0 highest & not (eqb u not_a_unit)

-- what copying answers, and what the room then holds
pub record CopyAnswer : Type 0 where
  pub outcome : Outcome
  pub room : List ℕ

abbrev pub copy_answer : Outcome → List ℕ → CopyAnswer
copy_answer o room = record { outcome = o; room = room }

-- "Copy: 10, 11, 12, 19, else 0."
unfoldable pub copy : List ℕ → List ℕ → DeviceAddress → ℕ → CopyAnswer
copy m room d u =
    reads m (λ why. copy_answer (Err why) room)
    (ask (copy_fits m room d u) (copy_answer (Err NoCopy) room)
    (copy_answer (Ok (Done (length m))) (over (copied m d u) room)))
