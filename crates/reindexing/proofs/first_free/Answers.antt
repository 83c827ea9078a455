-- `reindexing::first_free` meets its contract.
use Rattle.std.proofs.Common.{rules, tests}
use Rattle.std.proofs.lemmas.Iterator.Search.{position_from_yields_List}
use Rattle.words.specs.Basics.{sym, ◌∙◌, arith}
use Rattle.rules.specs.Types.{Binds}
use Rattle.rules.specs.Tables.{is_free}
use Rattle.rules.specs.Layout.{size}
use Rattle.rules.specs.Frame.{table}
use Rattle.rules.proofs.Records.{length-records}
use Rattle.records.proofs.Walks.{records-yielded}
use Rattle.reindexing.proofs.Moving.{first_free_found}
use Rattle.reindexing.proofs.first_free.Goals as goal

pub returns : goal.returns
returns c =
    c.unwrap_or.ensures
    ∙ first_free_found (table Binds c.args.binds.now) (sym (length-records (size Binds) c.args.binds.now))
    (position_from_yields_List is_free _ _ c.position-position.result c.position-position.ensures.ran
    (records-yielded (size Binds) c.args.binds.now (omega arith) (search rules) (search rules)) (λ x b q k. search (rules, tests)))
