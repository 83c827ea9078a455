-- `hosting::dismiss` meets its contract: all goes with the device where it is admitted, and nothing else.
use Rattle.words.specs.Basics.{sym, ◌∙◌}
use Rattle.rules.specs.Frame.{also}
use Rattle.rules.proofs.Frames.{replaced}
use Rattle.hosting.proofs.Hosting.{unknown, dismissed}
use Rattle.hosting.proofs.dismiss.Goals as goal

pub returns-then-not-is_admitted : goal.returns-then-not-is_admitted
returns-then-not-is_admitted c = λ gs. unknown _ _ (sym c.is_admitted.ensures ∙ c.if-not-is_admitted.true)

pub returns : goal.returns
unfolding replaced also
returns c = λ gs.
    dismissed _ _ (sym c.is_admitted.ensures ∙ c.if-not-is_admitted.false) c.free_device.ensures c.is_named-named.ensures c.release.ensures
