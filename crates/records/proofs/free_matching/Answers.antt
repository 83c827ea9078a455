-- `records::free_matching` meets its contract: a record that matches becomes free, and another stays.
use Rattle.words.specs.Basics.{sym, ◌∙◌, ◌+◌, true, false, arith}
use Rattle.rules.specs.Tables.{written, matches, clear}
use Rattle.rules.proofs.Records.{Changing, changing_start, changing_end, clear_end}
use Rattle.records.proofs.Walks.{clear_turn}
use Rattle.records.proofs.free_matching.Goals as goal
use Rattle.records.proofs.free_matching.Goals.{then-same_at, else-same_at}

pub loop-at-init : goal.loop-at-init
loop-at-init c = changing_start c.requires.2

pub loop-at-preserved : goal.loop-at-preserved
loop-at-preserved c =
    let a = c.args in
    let l = c.loop-at in
    elim c.if-same_at.branch [
      | then-same_at w ↦ clear_turn a.from a.size a.want.now true l.invariant c.requires.0 c.requires.1 (omega arith)
          (sym w.if-same_at.true ∙ c.same_at.ensures) (w.table-is ∙ w.fill_at.ensures)
      | else-same_at w ↦ clear_turn a.from a.size a.want.now false l.invariant c.requires.0 c.requires.1 (omega arith)
          (sym w.if-same_at.false ∙ c.same_at.ensures) w.table-is
    ]

pub returns : goal.returns
unfolding written
returns c = changing_end c.loop-at.invariant (omega arith) (clear_end _)

pub returns-after-same_at : goal.returns-after-same_at
unfolding written
returns-after-same_at c =
    let a = c.args in
    let l = c.loop-at in
    let done : Changing (clear (matches a.from a.want.now)) a.size a.table.now c.if-same_at.table (l.at + a.size) = elim c.if-same_at.branch [
      | then-same_at w ↦ clear_turn a.from a.size a.want.now true l.invariant c.requires.0 c.requires.1 (omega arith)
          (sym w.if-same_at.true ∙ c.same_at.ensures) (w.table-is ∙ w.fill_at.ensures)
      | else-same_at w ↦ clear_turn a.from a.size a.want.now false l.invariant c.requires.0 c.requires.1 (omega arith)
          (sym w.if-same_at.false ∙ c.same_at.ensures) w.table-is
    ] in
    changing_end done (omega arith) (clear_end _)
