-- What `table_sound` returns: a wrong length decides, and else the records do.
use Rattle.words.specs.Basics.{sym, ◌∙◌}
use Rattle.rules.specs.Lists.{◌&◌}
use Rattle.rules.specs.Sound.{sound_table}
use Rattle.soundness.proofs.table_sound.Goals as goal

pub returns-then-not-whole_records : goal.returns-then-not-whole_records
unfolding sound_table ◌&◌
returns-then-not-whole_records c =
    rw (
      sym c.shape_of-shape.ensures.size,
      sym c.shape_of-shape.ensures.most,
      sym c.whole_records.ensures ∙ c.if-not-whole_records.true,
    )

pub returns : goal.returns
unfolding sound_table ◌&◌
returns c =
    rw (
      sym c.shape_of-shape.ensures.size,
      sym c.shape_of-shape.ensures.most,
      sym c.shape_of-shape.ensures.key,
      sym c.whole_records.ensures ∙ c.if-not-whole_records.false,
      c.all_fit-fit.ensures,
      c.distinct-once.ensures,
      c.shape_of-shape.ensures.size,
    )
