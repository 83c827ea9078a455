-- `bind_records::from_any_device` meets its contract: the test is of the bind's source.
use Rattle.rules.specs.Layout.{from_any_device}
use Rattle.bind_records.proofs.from_any_device.Goals as goal

pub returns : goal.returns
unfolding from_any_device
returns c = rw (c.eq.ensures, c.bind_source.ensures)
