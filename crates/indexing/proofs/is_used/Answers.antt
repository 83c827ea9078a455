-- `indexing::is_used` meets its contract.
use Rattle.words.specs.Basics.{◌∙◌, arith}
use Rattle.indexing.proofs.Positions.{used_past, used-there}
use Rattle.indexing.proofs.is_used.Goals as goal

pub returns-then-binds-place : goal.returns-then-binds-place
returns-then-binds-place c = used_past c.args.position c.args.binds.now (omega arith)

pub returns : goal.returns
returns c = used-there c.args.position c.args.binds.now (omega arith) (c.is_free.ensures ∙ rw c.record_at.ensures)
