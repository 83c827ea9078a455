-- `octets::all_at` meets its contract.
use Rattle.std.proofs.Common.{rules, tests}
use Rattle.std.proofs.lemmas.Iterator.{YieldsList-from_slice}
use Rattle.std.proofs.lemmas.Iterator.Search.{all_from_yields_List}
use Rattle.words.specs.Basics.{◌≡◌, ◌∙◌, ◌+◌, ◌-◌, eqb, arith}
use Rattle.octets.proofs.Runs.{all-list_all}
use Rattle.octets.proofs.all_at.Goals as goal

pub returns : goal.returns
returns c =
    let a = c.args in
    let n : a.at + a.n - a.at ≡ a.n = omega arith in
    let part = YieldsList-from_slice _ c.iter.ensures.rest in
    rw n at (all_from_yields_List (λ o. eqb o a.value) _ _ c.all.result c.all.ensures.ran part (λ x b q k. search (rules, tests))) ∙ all-list_all _ _
