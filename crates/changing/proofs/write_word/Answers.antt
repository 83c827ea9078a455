-- `changing::write_word` meets its contract: the code, and the word behind 0x00.
use Rattle.words.specs.Basics.{refl, sym, ◌∙◌, not-true, not-false}
use Rattle.rules.specs.Octets.{octets}
use Rattle.rules.specs.Commands.{on_ok}
use Rattle.changing.proofs.write_word.Goals as goal

pub returns-then-ne : goal.returns-then-ne
unfolding on_ok
returns-then-ne c = rw (not-true _ (sym c.ne.ensures ∙ c.if-ne.true)) c.write_code.ensures

pub returns : goal.returns
unfolding on_ok octets
returns c = rw (not-false _ (sym c.ne.ensures ∙ c.if-ne.false), ← c.high.ensures, ← c.low.ensures) (refl, c.put.ensures)
