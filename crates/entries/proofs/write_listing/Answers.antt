-- `entries::write_listing` meets its contract: the entries behind, then the code and their number.
use Rattle.words.specs.Basics.{◌∙◌, arith}
use Rattle.rules.specs.Tables.{matches}
use Rattle.entries.proofs.Listed.{listed}
use Rattle.entries.proofs.write_listing.Goals as goal

pub returns : goal.returns
returns c =
    let a = c.args in
    let l =
    listed a.index a.most (matches a.from a.want.now) a.binds.now a.out.now _ (omega (arith, c.requires.2))
    c.write_entries-count.ensures.0 c.write_entries-count.ensures.1 in
    (l.0, c.put.ensures ∙ l.1)
