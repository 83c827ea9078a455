-- `bind_records::to_group` meets its contract: the test is of the flag of the word that stands there.
use Rattle.rules.specs.Layout.{to_group}
use Rattle.rules.specs.Octets.{flag}
use Rattle.bind_records.proofs.to_group.Goals as goal

pub returns : goal.returns
unfolding to_group flag
returns c = rw (c.flag.ensures, c.word_at.ensures)
