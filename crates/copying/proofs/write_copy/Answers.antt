-- `copying::write_copy` meets its contract. Octets stored in what was written over are stored in the message.
use Rattle.words.specs.Basics.{◌∙◌}
use Rattle.copying.proofs.Copies.{copied-over}
use Rattle.copying.proofs.write_copy.Goals as goal

pub returns : goal.returns
returns c = c.write_at.ensures ∙ rw (c.put.ensures, c.destination_octets-to.ensures) (copied-over _ _ _ _ c.requires.0)
