-- Runs of an index, entry by entry (document 02, request 3), and which messages go by it.
use Rattle.std.specs.Prelude.{◌≡◌, Bool, true, false, List, map, ℕ, suc, ◌-◌, ◌<◌, ◌≤◌, length, take, drop, get_or, Option}
use Rattle.words.specs.declared.Destination.{Destination}
use Rattle.rules.specs.Types.{Fields, Concentrator, BindAddress, Unit, Group}
use Rattle.rules.specs.Tables.{Rec}
use Rattle.index_rules.specs.Index.{entry}
use Rattle.index_rules.specs.Walks.{ranked, device_rank, near}
use Rattle.collecting.specs.Leaving.{bound_but}

-- the binds that the entries from one place up to another name
unfoldable pub named : List Rec → List ℕ → ℕ → ℕ → List Rec
named bs ix from to = map (entry bs) (take (to - from) (drop from ix))

-- there the entries of the source device d stand
pub record Standing (bs : List Rec) (ix : List ℕ) (d from to : ℕ) : Type 0 where
  pub begins : from ≡ ranked bs (device_rank d) ix
  pub ends : to ≡ ranked bs (device_rank (suc d)) ix

-- and each entry up to there names a record
pub record Naming (bs : List Rec) (ix : List ℕ) (from to : ℕ) : Type 0 where
  pub rises : from ≤ to
  pub within : to ≤ length ix
  pub there : (i : ℕ) → i < to → get_or ix i 0 < length bs

-- whom the binds near the message reach
unfoldable pub near_but : Option ℕ → Fields → List Rec → List Rec → List ℕ → List ℕ
near_but x f ms bs ix = bound_but x f ms (map (entry bs) (near bs f ix))

-- is the message for whom the binds reach?
abbrev pub to_binds : Destination → Bool
to_binds Concentrator = false
to_binds BindAddress = true
to_binds (Unit d u) = false
to_binds (Group g) = false
