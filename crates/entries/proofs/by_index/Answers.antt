-- `entries::by_index` meets its contract: start index and number are the payload's.
use Rattle.words.specs.Basics.{refl, ◌∙◌}
use Rattle.entries.proofs.Listed.{any-bind}
use Rattle.entries.proofs.by_index.Goals as goal

pub returns : goal.returns
returns c =
    rw (← any-bind c.args.payload.now _ c.word_at-index.ensures c.min-most.ensures refl) c.write_listing.ensures
