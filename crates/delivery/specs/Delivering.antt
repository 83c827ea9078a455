-- When delivery may be asked for (document 01, Recipients and Outcomes).
use Rattle.std.specs.Prelude.{List, ℕ, ◌+◌, ◌*◌, ◌/◌, ◌≤◌, max, length}
use Rattle.rules.specs.Types.{Binds, Members}
use Rattle.rules.specs.Layout.{size, full}

-- tables within their limits, and the room that outcome 17 asks for
pub record Deliverable (bs ms list : List ℕ) : Type 0 where
  pub binds : length bs ≤ full Binds
  pub members : length ms ≤ full Members
  pub room : 3 * max 1 (length bs / size Binds + length ms / size Members) ≤ length list
