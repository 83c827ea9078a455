-- `changing::remove` meets its contract: all matches go, or the table stays.
use Rattle.words.specs.Basics.{sym, ap, ◌∙◌}
use Rattle.rules.specs.Types.{Code}
use Rattle.changing.proofs.Changed.{changes, refuses, absent, present}
use Rattle.changing.proofs.remove.Goals as goal

pub returns-then-not-has : goal.returns-then-not-has
returns-then-not-has c = refuses _ _ c.invalid_argument.ensures (absent _ _ (sym c.has.ensures ∙ c.if-not-has.true))

pub returns : goal.returns
returns c =
    let e = c.ok.ensures in
    changes _ _ _ (e ∙ present _ _ (sym c.has.ensures ∙ c.if-not-has.false)) (ap (λ (x : Code). x.0) e) c.free_matching.ensures
