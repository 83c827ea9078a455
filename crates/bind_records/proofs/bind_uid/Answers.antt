-- `bind_records::bind_uid` meets its contract: the number of the word that stands there.
use Rattle.rules.specs.Octets.{number}
use Rattle.bind_records.proofs.bind_uid.Goals as goal

pub returns : goal.returns
unfolding number
returns c = rw (c.number.ensures, c.word_at.ensures)
