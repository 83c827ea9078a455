-- `bind_commands::bind_there` meets its contract: every record is read whole and compared.
use Rattle.std.proofs.Common.{rules, tests}
use Rattle.std.proofs.lemmas.Iterator.Search.{any_from_yields_List}
use Rattle.words.specs.Basics.{◌∙◌, not, ◌&&◌, arith, take}
use Rattle.rules.specs.Tables.{is_free, matches}
use Rattle.records.proofs.Walks.{records-yielded}
use Rattle.bind_commands.proofs.Bound.{compared}
use Rattle.bind_commands.proofs.bind_there.Goals as goal

pub returns : goal.returns
returns c =
    let w = c.args.bind in
    let all = records-yielded 8 c.args.binds.now (omega arith) c.chunks_exact.ensures.rest c.chunks_exact.ensures.size in
    any_from_yields_List (λ r. not (is_free r) && matches 0 w (take 8 r)) _ _ c.any.result c.any.ensures.ran all (λ x b q k. search (rules, tests))
    ∙ compared 8 w _ (omega arith)
