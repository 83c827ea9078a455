-- `records::first_free` meets its contract, as `find` does.
use Rattle.std.proofs.Common.{rules, tests}
use Rattle.std.proofs.lemmas.Iterator.Search.{position_from_yields_List}
use Rattle.std.specs.Option.{option_map}
use Rattle.words.specs.Basics.{◌≡◌, ap, ◌∙◌, ◌*◌}
use Rattle.rules.specs.Tables.{is_free}
use Rattle.records.proofs.Search.{position-place}
use Rattle.records.proofs.Walks.{records-yielded}
use Rattle.records.proofs.first_free.Goals as goal

pub returns : goal.returns
returns c =
    let k = c.args.size in
    let all = records-yielded k c.args.table.now c.requires c.chunks_exact.ensures.rest c.chunks_exact.ensures.size in
    let p = position_from_yields_List is_free _ _ c.position.result c.position.ensures.ran all (λ x b q k. search (rules, tests)) in
    let m : c.map.result ≡ option_map (λ i. i * k) c.position.result = search (rules, tests) in
    m ∙ (ap (option_map (λ i. i * k)) p ∙ position-place _ _ _)
