-- `bind_records::at_any_interface` meets its contract: the test is of the bind's UID.
use Rattle.rules.specs.Layout.{at_any_interface}
use Rattle.bind_records.proofs.at_any_interface.Goals as goal

pub returns : goal.returns
unfolding at_any_interface
returns c = rw c.bind_uid.ensures
