-- `indexing::count_used` meets its contract. Each record in use has a rank.
use Rattle.std.proofs.Common.{rules, tests}
use Rattle.std.proofs.lemmas.Iterator.Consumers.{YieldsList-from_filter, count_from_yields_List}
use Rattle.words.specs.Basics.{◌∙◌, not, arith}
use Rattle.rules.specs.Types.{Binds}
use Rattle.rules.specs.Tables.{is_free}
use Rattle.rules.specs.Layout.{size}
use Rattle.rules.specs.Frame.{table}
use Rattle.records.proofs.Walks.{records-yielded}
use Rattle.indexing.proofs.Checking.{used-ranks}
use Rattle.indexing.proofs.count_used.Goals as goal

pub returns : goal.returns
returns c =
    count_from_yields_List c.filter.result _ c.count.ensures.ran
    (YieldsList-from_filter _ (λ b. not (is_free b))
    (records-yielded (size Binds) c.args.binds.now (omega arith) (search rules) (search rules))
    c.filter.ensures.closure (λ x r q k. search (rules, tests)))
    ∙ used-ranks (table Binds c.args.binds.now)
