-- `carrying::carried` meets its contract: a free record stays free, one in use becomes a device's record.
use Rattle.words.specs.Basics.{sym, ◌∙◌}
use Rattle.rules.specs.Carry.{carried}
use Rattle.carrying.proofs.carried.Goals as goal

pub returns-then-is_free : goal.returns-then-is_free
unfolding carried
returns-then-is_free c = rw (sym c.is_free.ensures ∙ c.if-is_free.true)

pub returns : goal.returns
unfolding carried
returns c = rw (sym c.is_free.ensures ∙ c.if-is_free.false, c.device_record.ensures, c.word_at.ensures, c.up_to-units.ensures)
