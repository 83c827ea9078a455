-- `reindexing::insert_at` meets its contract.
use Rattle.words.specs.Basics.{◌∙◌, ap, arith, set}
use Rattle.reindexing.proofs.Moving.{put_in_place, put_in_past}
use Rattle.reindexing.proofs.insert_at.Goals as goal

pub returns-then-all-at : goal.returns-then-all-at
returns-then-all-at c = put_in_past c.args.at c.args.v c.args.index.now (omega arith)

pub returns : goal.returns
returns c = ap (λ s. set s c.args.at c.args.v) c.copy_within.ensures.after ∙ put_in_place c.args.at c.args.v c.args.index.now (omega arith)
