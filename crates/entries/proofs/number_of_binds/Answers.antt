-- `entries::number_of_binds` meets its contract.
use Rattle.std.proofs.Common.{rules, tests}
use Rattle.std.proofs.lemmas.Iterator.Consumers.{YieldsList-at, YieldsList-from_filter, count_from_yields_List}
use Rattle.words.specs.Basics.{ap, ◌∙◌, not, arith, length}
use Rattle.rules.specs.Tables.{is_free, used}
use Rattle.records.proofs.Walks.{records-yielded}
use Rattle.entries.proofs.Entering.{filter-keep}
use Rattle.entries.proofs.number_of_binds.Goals as goal

pub returns : goal.returns
unfolding used
returns c =
    let all = records-yielded 8 c.args.binds.now (omega arith) c.chunks_exact.ensures.rest c.chunks_exact.ensures.size in
    count_from_yields_List _ _ c.count.ensures.ran
    (YieldsList-from_filter _ (λ r. not (is_free r)) (YieldsList-at c.filter.ensures.source all) c.filter.ensures.closure (λ x b q k. search (rules, tests)))
    ∙ ap length (filter-keep _ _)
