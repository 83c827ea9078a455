-- `creating::new_group` counts up as long as addresses are in use, and ends after as many as there are records.
use Rattle.creating.proofs.Smallest.{Numbering}
use Rattle.creating.proofs.new_group.Given as goal

abbrev pub invariant-loop-address : goal.invariant-loop-address
invariant-loop-address l = Numbering l.groups l.address l.last
