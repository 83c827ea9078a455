-- `bind_records::bind_role` meets its contract: the flag of the word that stands there.
use Rattle.rules.specs.Octets.{flag}
use Rattle.bind_records.proofs.bind_role.Goals as goal

pub returns : goal.returns
unfolding flag
returns c = rw (c.flag.ensures, c.word_at.ensures)
