-- What is asked of all that is lent, before the message is looked at (document 01, Outcomes): 17, then 16, else 0.
use Rattle.std.specs.Prelude.{List, ℕ, Ok, Err}
use Rattle.rules.specs.Types.{Outcome, Done, Unsound, NoRoom}
use Rattle.rules.specs.Lists.{ask}
use Rattle.rules.specs.Frame.{Lent}
use Rattle.rules.specs.Sound.{sound}
use Rattle.rules.specs.Calls.{roomy}

unfoldable pub lending : Lent → List ℕ → List ℕ → Outcome
lending L r l = ask (roomy L.binds L.members r l) (Err NoRoom) (ask (sound L) (Err Unsound) (Ok (Done 0)))
