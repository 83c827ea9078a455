-- `octets::put` meets its contract: a run written from 0 on is written over.
use Rattle.words.specs.Basics.{◌∙◌}
use Rattle.octets.proofs.Runs.{sets_over}
use Rattle.octets.proofs.put.Goals as goal

pub returns : goal.returns
returns c = c.write_at.ensures ∙ sets_over c.args.run.now c.args.s.now c.requires
