-- `carrying::old_sound` meets its contract: a wrong length decides, and else the records do.
use Rattle.std.proofs.Common.{rules}
use Rattle.words.specs.Basics.{sym, ◌∙◌}
use Rattle.rules.specs.Lists.{◌&◌}
use Rattle.rules.specs.Carry.{old_fits, old_sound}
use Rattle.carrying.proofs.old_sound.Goals as goal

pub returns-then-not-whole_records : goal.returns-then-not-whole_records
unfolding old_sound ◌&◌
returns-then-not-whole_records c = rw (sym c.whole_records.ensures ∙ c.if-not-whole_records.true)

pub returns : goal.returns
unfolding old_sound ◌&◌
returns c =
    let fit = c.all_used-fit.ensures old_fits (record { says = λ r b l h. search rules }) in
    rw (sym c.whole_records.ensures ∙ c.if-not-whole_records.false, fit, c.distinct-once.ensures)
