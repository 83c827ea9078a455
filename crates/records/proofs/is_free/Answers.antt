-- `records::is_free` meets its contract: a record is free iff all its octets are 0xFF.
use Rattle.std.proofs.Common.{rules, tests}
use Rattle.std.proofs.lemmas.Iterator.{YieldsList-from_slice}
use Rattle.std.proofs.lemmas.Iterator.Search.{all_from_yields_List}
use Rattle.words.specs.Basics.{◌∙◌, eqb}
use Rattle.rules.specs.Tables.{is_free, free}
use Rattle.octets.proofs.Runs.{all-list_all}
use Rattle.records.proofs.is_free.Goals as goal

pub returns : goal.returns
unfolding is_free
returns c =
    all_from_yields_List (λ o. eqb o free) _ _ c.all.result c.all.ensures.ran (YieldsList-from_slice _ c.iter.ensures.rest) (λ x b q k. search (rules, tests))
    ∙ all-list_all _ _
