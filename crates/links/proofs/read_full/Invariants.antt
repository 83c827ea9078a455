-- `links::read_full` meets its contract: what was read so far is within the room.
use Rattle.std.proofs.Common.{◌≤◌, length}
use Rattle.links.proofs.read_full.Given as goal

abbrev pub invariant-loop : goal.invariant-loop
invariant-loop l = l.n ≤ length l.room
