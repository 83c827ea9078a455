-- What Delete Group answers: a code, and the tables that were lent, changed where the code is 0x00.
use Rattle.std.specs.Prelude.{List, ℕ}
use Rattle.rules.specs.Types.{GroupAddress, Code, Binds, Groups, Members}
use Rattle.rules.specs.Tables.{addressed, wipe, written}
use Rattle.rules.specs.Layout.{size, to_this_group, in_group}
use Rattle.rules.specs.Frame.{table}
use Rattle.rules.specs.Commands.{naming, on_ok}

pub record Deleted : Type 0 where
  pub code : Code
  pub binds : List ℕ
  pub groups : List ℕ
  pub members : List ℕ

abbrev pub deleted : Code → List ℕ → List ℕ → List ℕ → Deleted
deleted c bs gs ms = record { code = c; binds = bs; groups = gs; members = ms }

unfoldable pub deleting : GroupAddress → List ℕ → List ℕ → List ℕ → Deleted
deleting g bs gs ms =
    let c : Code = naming g (table Groups gs) in
    deleted
    c
    (on_ok c (written (size Binds) (wipe (to_this_group g)) bs) bs)
    (on_ok c (written (size Groups) (wipe (addressed g.0)) gs) gs)
    (on_ok c (written (size Members) (wipe (in_group g)) ms) ms)
