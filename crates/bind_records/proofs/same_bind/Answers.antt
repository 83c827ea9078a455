-- `bind_records::same_bind` meets its contract: the octets match from the first place on.
use Rattle.words.specs.Basics.{◌∙◌, arith}
use Rattle.rules.specs.Tables.{matches}
use Rattle.bind_records.proofs.Same.{pointwise-starts}
use Rattle.bind_records.proofs.same_bind.Goals as goal

pub returns : goal.returns
unfolding matches
returns c = c.eq.ensures ∙ pointwise-starts c.args.bind c.args.other (omega arith)
