-- `bind_records::from_any_unit` meets its contract: the test is of the bind's source unit.
use Rattle.rules.specs.Layout.{from_any_unit}
use Rattle.bind_records.proofs.from_any_unit.Goals as goal

pub returns : goal.returns
unfolding from_any_unit
returns c = rw c.bind_source_unit.ensures
