-- `creating::create` meets its contract: what `create_group` and `write_word` answer, at the new address.
use Rattle.creating.proofs.Created.{makes}
use Rattle.creating.proofs.create.Goals as goal

pub returns : goal.returns
returns c = makes _ _ _ c.new_group-group.ensures c.create_group-code.ensures c.write_word.ensures
