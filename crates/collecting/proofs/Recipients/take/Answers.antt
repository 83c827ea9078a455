-- `collecting::Recipients::take` meets its contract. A unit that is there leaves the list, another one is written behind the others.
use Rattle.std.proofs.Common.{rules}
use Rattle.words.specs.Basics.{sym, ◌∙◌, arith}
use Rattle.units.proofs.Listing.{enough_so_far, enough_for_one, taken_there, taken_new}
use Rattle.collecting.proofs.Recipients.take.Goals as goal

pub listed-requires : goal.listed-requires
listed-requires c = enough_so_far c.requires.1

pub returns-then-listed : goal.returns-then-listed
returns-then-listed c = taken_there c.requires.1 (λ i. search rules) (sym c.listed.ensures ∙ c.if-listed.true)

pub append-requires : goal.append-requires
append-requires c = (enough_for_one c.requires.1 (sym c.listed.ensures ∙ c.if-listed.false), c.requires.0)

pub overflow_add-result : goal.overflow_add-result
overflow_add-result c = omega (arith, enough_for_one c.requires.1 (sym c.listed.ensures ∙ c.if-listed.false))

pub returns : goal.returns
returns c = taken_new c.requires.1 (λ i. search rules) (sym c.listed.ensures ∙ c.if-listed.false) c.append.ensures
