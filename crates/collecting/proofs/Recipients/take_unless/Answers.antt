-- `collecting::Recipients::take_unless` meets its contract. A unit that is left out leaves the list.
use Rattle.std.proofs.Common.{rules}
use Rattle.units.proofs.Listing.{taken_none}
use Rattle.collecting.proofs.Collecting.{leaving-out, leaving_in}
use Rattle.collecting.proofs.Recipients.take_unless.Goals as goal

pub returns-then-left_out : goal.returns-then-left_out
returns-then-left_out c =
    taken_none (leaving-out c.args.except c.args.u c.left_out.ensures c.if-left_out.true) (λ i. search rules) c.requires.1

pub take-requires : goal.take-requires
take-requires c = (c.requires.0, rw (leaving_in c.args.except c.args.u c.left_out.ensures c.if-left_out.false) at c.requires.1)

pub returns : goal.returns
returns c = rw (leaving_in c.args.except c.args.u c.left_out.ensures c.if-left_out.false) c.take.ensures
