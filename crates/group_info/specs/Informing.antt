-- What Get Group Info answers: the payload of its reply.
use Rattle.std.specs.Prelude.{List, [], ◌∷◌, ℕ}
use Rattle.rules.specs.Types.{GroupAddress, Code}
use Rattle.rules.specs.Tables.{Rec}
use Rattle.rules.specs.Commands.{naming, group_info, on_ok}

unfoldable pub informing : List Rec → List Rec → GroupAddress → List ℕ
informing gs ms g =
    let c : Code = naming g gs in
    c.0 ∷ on_ok c (group_info gs ms g) []
