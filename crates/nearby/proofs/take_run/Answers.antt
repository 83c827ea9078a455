-- `nearby::take_run` meets its contract. What the binds give that the entries that are left name is still to be taken.
use native.Mathlib.Nat.{add-zero}
use Rattle.words.specs.Basics.{refl, ap, ◌∙◌, arith, length}
use Rattle.rules.specs.Types.{Binds}
use Rattle.rules.specs.Layout.{size}
use Rattle.rules.proofs.Records.{length-record}
use Rattle.collecting.proofs.Gathering.{gathering_start, gathering_enough, gathering_more, gathering_end}
use Rattle.collecting.proofs.Collecting.{bound_additive, bound-none}
use Rattle.nearby.proofs.Running.{named_inside, named_next, named_end}
use Rattle.nearby.proofs.take_run.Goals as goal

pub loop-position-init : goal.loop-position-init
loop-position-init c = rw add-zero (gathering_start (λ i. omega (arith, c.type_inv.list i)) c.requires.1)

pub record_at-record-requires : goal.record_at-record-requires
record_at-record-requires c =
    let h = named_inside c.args.binds.now c.args.index.now c.loop-position.position-index c.requires.0 (omega arith) refl in
    omega (arith, h)

pub take_bind-r-requires : goal.take_bind-r-requires
take_bind-r-requires c =
    let q = named_next c.args.binds.now c.args.index.now c.loop-position.position-index c.requires.0 (omega arith) refl c.record_at-record.ensures in
    let h = named_inside c.args.binds.now c.args.index.now c.loop-position.position-index c.requires.0 (omega arith) refl in (
      ap length c.record_at-record.ensures ∙ length-record (size Binds) _ c.args.binds.now (omega (arith, h)),
      gathering_enough _ _ (bound_additive _ _ _) (rw q at c.loop-position.invariant) c.requires.1,
    )

pub loop-position-preserved : goal.loop-position-preserved
loop-position-preserved c =
    let q = named_next c.args.binds.now c.args.index.now c.loop-position.position-index c.requires.0 (omega arith) refl c.record_at-record.ensures in
    gathering_more _ _ (bound_additive _ _ _) (rw q at c.loop-position.invariant) c.take_bind-r.auto.list c.take_bind-r.ensures

pub returns : goal.returns
returns c = gathering_end c.loop-position.invariant (bound-none _ _ _) (named_end _ _ _ _ (omega arith))
