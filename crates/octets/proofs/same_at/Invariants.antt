-- `octets::same_at`: what is left to compare gives the answer.
use Rattle.octets.proofs.Runs.{Comparing}
use Rattle.octets.proofs.same_at.Given as goal

abbrev pub invariant-loop-j : goal.invariant-loop-j
invariant-loop-j l = Comparing l.want l.s l.at l.j
