-- `octets::word_at` meets its contract: the word of the two octets.
use Rattle.words.specs.Basics.{rules}
use Rattle.rules.specs.Octets.{word}
use Rattle.octets.proofs.word_at.Goals as goal

pub returns : goal.returns
unfolding word
returns c = search rules
