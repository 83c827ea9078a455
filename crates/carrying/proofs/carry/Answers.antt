-- `carrying::carry` meets its contract. What is left to carry over gives the table.
use Rattle.std.proofs.Common.{rules}
use Rattle.carrying.proofs.OneByOne.{carrying_start, carrying_more, carrying_end}
use Rattle.carrying.proofs.carry.Goals as goal

pub loop-i-init : goal.loop-i-init
loop-i-init c = carrying_start c.requires.1 (search rules) (search rules) (search rules)

pub loop-i-preserved : goal.loop-i-preserved
loop-i-preserved c =
    let s = c.in-Some.ensures.steps in
    carrying_more c.in-Some.record.now c.loop-i.invariant s.0 s.1 s.2 c.carried.ensures c.write_at.ensures

pub returns : goal.returns
returns c = carrying_end c.loop-i.invariant c.in-None.ensures.steps.0.1.0 c.requires.0 c.requires.1
