-- `carrying::carry`: what is left to carry over gives the table.
use Rattle.std.specs.Slice.Iter.{chunks_exact_rest, chunks_exact_size}
use Rattle.carrying.proofs.OneByOne.{Carrying}
use Rattle.carrying.proofs.carry.Given as goal

abbrev pub invariant-loop-i : goal.invariant-loop-i
invariant-loop-i l =
    Carrying l.old l.initial.new l.new (chunks_exact_rest l.i-iterator.iter) (chunks_exact_size l.i-iterator.iter) l.i-iterator.count
