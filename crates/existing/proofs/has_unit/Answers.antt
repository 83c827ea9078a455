-- What `has_unit` returns: each record of the table is tested, where it stands.
use Rattle.std.proofs.Common.{rules, tests}
use Rattle.std.proofs.lemmas.Iterator.{YieldsList-from_range}
use Rattle.std.proofs.lemmas.Iterator.Search.{any_from_yields_List}
use Rattle.words.specs.Basics.{◌∙◌, ◌*◌, ◌/◌, refl, arith, length, take, drop}
use Rattle.rules.specs.Types.{Devices}
use Rattle.rules.specs.Layout.{size}
use Rattle.rules.specs.Exists.{has_unit}
use Rattle.records.specs.Search.{passes}
use Rattle.existing.proofs.Walk.{list_any-used, list_any-places}
use Rattle.existing.proofs.has_unit.Goals as goal

pub returns : goal.returns
returns c =
    let a = c.args in
    let q = passes (has_unit a.device a.unit) in
    any_from_yields_List (λ i. q (take (size Devices) (drop (i * size Devices) a.devices.now))) _ _ c.any.result c.any.ensures.ran
    (YieldsList-from_range 0 (length a.devices.now / size Devices) (length a.devices.now / size Devices) refl (omega arith)) (λ x b p k. search (rules, tests))
    ∙ list_any-places q a.devices.now ∙ list_any-used _ _
