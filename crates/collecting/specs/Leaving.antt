-- Who is left out (document 01, Recipients, "without the sender"), and those that are taken.
use Rattle.std.specs.Prelude.{Bool, false, not, List, ℕ, eqb, Option, None, Some}
use Rattle.rules.specs.Types.{GroupAddress, Fields}
use Rattle.rules.specs.Lists.{keep}
use Rattle.rules.specs.Tables.{Rec}
use Rattle.rules.specs.Recipients.{members_of, bound}

abbrev pub left_out : Option ℕ → ℕ → Bool
left_out None u = false
left_out (Some s) u = eqb u s

unfoldable pub leaving : Option ℕ → List ℕ → List ℕ
leaving x us = keep (λ u. not (left_out x u)) us

-- a group's members
unfoldable pub members_but : Option ℕ → GroupAddress → List Rec → List ℕ
members_but x g ms = leaving x (members_of ms g)

-- whom the binds that match the message reach
unfoldable pub bound_but : Option ℕ → Fields → List Rec → List Rec → List ℕ
bound_but x f ms bs = leaving x (bound bs ms f)
