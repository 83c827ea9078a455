-- `units::listed` meets its contract.
use Rattle.std.proofs.Common.{rules, tests}
use Rattle.std.proofs.lemmas.Iterator.{YieldsList-from_range}
use Rattle.std.proofs.lemmas.Iterator.Search.{any_from_yields_List}
use Rattle.words.specs.Basics.{arith, refl, ◌∙◌, ◌*◌, eqb}
use Rattle.rules.specs.Units.{unit_at}
use Rattle.units.proofs.Listing.{has-places}
use Rattle.units.proofs.listed.Goals as goal

pub returns : goal.returns
returns c =
    any_from_yields_List (λ i. eqb (unit_at (3 * i) c.args.list.now) c.args.u) _ _ c.any.result c.any.ensures.ran
    (YieldsList-from_range 0 c.args.n c.args.n refl (omega arith)) (λ x b q k. search (rules, tests))
    ∙ has-places c.args.u c.args.n 0 c.args.list.now
