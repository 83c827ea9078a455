-- `indexing::is_below` meets its contract: the devices decide where they differ, and the ranks where they do not.
use native.Mathlib.Nat.{add-zero}
use Rattle.words.specs.Basics.{refl, arith}
use Rattle.indexing.proofs.Positions.{below_past, below-there, below-device}
use Rattle.indexing.proofs.is_below.Goals as goal

pub returns-then-binds-place : goal.returns-then-binds-place
returns-then-binds-place c = below_past c.args.position c.args.binds.now c.args.rank (omega arith)

pub returns-then-device-wanted : goal.returns-then-device-wanted
returns-then-device-wanted c =
    below-device c.args.position c.args.binds.now c.args.rank (λ i. omega (arith, c.type_inv.binds i)) (omega arith)
    (omega arith) (rw add-zero at c.word_at-device.ensures) refl c.if-device-wanted.true

pub returns : goal.returns
returns c = below-there c.args.position c.args.binds.now c.args.rank (omega arith) c.rank_at.ensures.0
