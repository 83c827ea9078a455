-- `records::find` meets its contract: the count of records before the first that passes, times their size, is its place.
use Rattle.std.proofs.Common.{rules, tests}
use Rattle.std.proofs.lemmas.Iterator.Search.{position_from_yields_List}
use Rattle.std.specs.Option.{option_map}
use Rattle.words.specs.Basics.{◌≡◌, ap, ◌∙◌, ◌*◌}
use Rattle.rules.specs.Tables.{matches}
use Rattle.records.specs.Search.{passes, found_at}
use Rattle.records.proofs.Search.{position-place}
use Rattle.records.proofs.Walks.{records-yielded}
use Rattle.records.proofs.find.Goals as goal

pub returns : goal.returns
unfolding found_at
returns c =
    let a = c.args in
    let k = a.size in
    let all = records-yielded k a.table.now c.requires.0 c.chunks_exact.ensures.rest c.chunks_exact.ensures.size in
    let q = passes (matches a.from a.want.now) in
    let p = position_from_yields_List q _ _ c.position.result c.position.ensures.ran all (λ x b q k. search (rules, tests)) in
    let m : c.map.result ≡ option_map (λ i. i * k) c.position.result = search (rules, tests) in
    m ∙ (ap (option_map (λ i. i * k)) p ∙ position-place _ _ _)
