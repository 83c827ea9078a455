-- `records::store` meets its contract: the first free record takes the new one.
use Rattle.words.specs.Basics.{sym, ap, ◌∙◌, arith}
use Rattle.rules.specs.Tables.{written}
use Rattle.records.proofs.Search.{place_first}
use Rattle.records.proofs.Storing.{stored, put-place}
use Rattle.records.proofs.store.Goals as goal

pub write_at-requires : goal.write_at-requires
write_at-requires c = omega (arith, (place_first _ _ _ (sym c.first_free.ensures ∙ c.in-Some.is)).0)

pub returns-in-Some : goal.returns-in-Some
unfolding written
returns-in-Some c =
    let a = c.args in
    let e = ap (stored a.«record».now a.table.now) (sym c.first_free.ensures ∙ c.in-Some.is) in
    c.write_at.ensures ∙ sym e ∙ put-place a.«record».now a.size a.table.now c.requires.0 c.requires.2 c.requires.1

pub returns-in_default : goal.returns-in_default
unfolding written
returns-in_default c =
    let a = c.args in
    let e = ap (stored a.«record».now a.table.now) (sym c.first_free.ensures ∙ c.in_default.is) in
    sym e ∙ put-place a.«record».now a.size a.table.now c.requires.0 c.requires.2 c.requires.1
