-- `entries::write_entries`: the binds that are yet to come are to be written behind those that are.
use Rattle.rules.specs.Types.{Binds}
use Rattle.rules.specs.Tables.{matches}
use Rattle.rules.specs.Layout.{size}
use Rattle.rules.specs.Frame.{table}
use Rattle.rules.specs.Sessions.{chosen}
use Rattle.entries.proofs.Entering.{Entering}
use Rattle.entries.proofs.write_entries.Given as goal

abbrev pub invariant-loop-entry : goal.invariant-loop-entry
invariant-loop-entry l = Entering (goal.iterator-loop-entry).next_gives
    (size Binds) (chosen l.fn.index l.fn.most (matches l.fn.from l.fn.want) (table Binds l.fn.binds)) l.initial.out l.out l.count l.entry-iterator
