-- What Create Group answers.
use Rattle.std.specs.Prelude.{List, [], ◌∷◌, ℕ, length}
use Rattle.rules.specs.Types.{GroupAddress, Code, Groups}
use Rattle.rules.specs.Octets.{octets, over}
use Rattle.rules.specs.Tables.{store, written}
use Rattle.rules.specs.Layout.{size, group_record}
use Rattle.rules.specs.Frame.{table}
use Rattle.rules.specs.Commands.{creation, new_group, on_ok}

-- Create Group whole: the length of its reply's payload, the group table, and the part of the reply where the payload stands
pub record Made : Type 0 where
  pub length : ℕ
  pub groups : List ℕ
  pub out : List ℕ

abbrev pub made : ℕ → List ℕ → List ℕ → Made
made n gs out = record { length = n; groups = gs; out = out }

unfoldable pub making : List ℕ → List ℕ → List ℕ → Made
making gs p out =
    let c : Code = creation p (table Groups gs) in
    let g : GroupAddress = new_group (table Groups gs) in
    let q : List ℕ = c.0 ∷ on_ok c (octets g.0) [] in
    made (length q) (on_ok c (written (size Groups) (store (group_record g p)) gs) gs) (over q out)
