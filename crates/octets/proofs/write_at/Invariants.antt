-- `octets::write_at`: what is left to write gives the octets.
use Rattle.octets.proofs.Runs.{Writing}
use Rattle.octets.proofs.write_at.Given as goal

abbrev pub invariant-loop-j : goal.invariant-loop-j
invariant-loop-j l = Writing l.run l.initial.s l.at l.s l.j
