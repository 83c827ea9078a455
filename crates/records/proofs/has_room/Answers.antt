-- `records::has_room` meets its contract: the chain asks each record.
use Rattle.std.proofs.Common.{rules, tests}
use Rattle.std.proofs.lemmas.Iterator.Search.{any_from_yields_List}
use Rattle.words.specs.Basics.{◌∙◌}
use Rattle.rules.specs.Tables.{is_free, some_free}
use Rattle.records.proofs.Search.{any-list_any}
use Rattle.records.proofs.Walks.{records-yielded}
use Rattle.records.proofs.has_room.Goals as goal

pub returns : goal.returns
unfolding some_free
returns c =
    let all = records-yielded c.args.size c.args.table.now c.requires c.chunks_exact.ensures.rest c.chunks_exact.ensures.size in
    any_from_yields_List is_free _ _ c.any.result c.any.ensures.ran all (λ x b q k. search (rules, tests)) ∙ any-list_any _ _
