-- What a call that is lent the index has: the plain call's answer, and the index beside it (document 02, request 3).
use Rattle.std.specs.Prelude.{List, ℕ}
use Rattle.rules.specs.Types.{Binds}
use Rattle.rules.specs.Frame.{Lent, tables}
use Rattle.index_rules.specs.Index.{right_index}

-- what the plain call has, and the index beside it
pub record Indexed (A : Type 0) : Type 0 where
  pub plain : A
  pub index : List ℕ

abbrev pub indexed : {A : Type 0} → A → List ℕ → Indexed A
indexed a ix = record { plain = a; index = ix }

-- the index of the binds of these tables
abbrev pub index_of : Lent → List ℕ
index_of L = right_index (tables L Binds)
