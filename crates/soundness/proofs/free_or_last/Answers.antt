-- What `free_or_last` returns: of a free record nothing is asked.
use Rattle.words.specs.Basics.{sym, ap, ◌∙◌, not}
use Rattle.soundness.specs.Asking.{free_or, not_again}
use Rattle.soundness.proofs.free_or_last.Goals as goal

pub returns-then-is_free : goal.returns-then-is_free
unfolding free_or
returns-then-is_free c = rw (sym c.is_free.ensures ∙ c.if-is_free.true)

pub returns : goal.returns
unfolding free_or not_again
returns c = rw (sym c.is_free.ensures ∙ c.if-is_free.false) (ap not c.has.ensures)
