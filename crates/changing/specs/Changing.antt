-- What a change of one table answers: the code of its checks, and the table that was lent, changed where the code is 0x00.
use Rattle.std.specs.Prelude.{List, ℕ}
use Rattle.rules.specs.Types.{Code}
use Rattle.rules.specs.Tables.{Change, written}
use Rattle.rules.specs.Commands.{on_ok}

pub record Coded : Type 0 where
  pub code : Code
  pub table : List ℕ

abbrev pub coded : Code → List ℕ → Coded
coded c t = record { code = c; table = t }

-- this code, and where it is 0x00 this change of a table of records of k octets
unfoldable pub coding : ℕ → Code → Change → List ℕ → Coded
coding k c x t = coded c (on_ok c (written k x t) t)
