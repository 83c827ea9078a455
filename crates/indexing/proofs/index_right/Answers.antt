-- `indexing::index_right` meets its contract.
use Rattle.words.specs.Basics.{sym, ◌∙◌, arith}
use Rattle.rules.specs.Types.{Binds}
use Rattle.rules.specs.Layout.{size}
use Rattle.rules.specs.Frame.{table}
use Rattle.rules.proofs.Records.{length-records}
use Rattle.index_rules.proofs.Right.{checked, wrong-length}
use Rattle.indexing.proofs.index_right.Goals as goal

pub returns-then-index-binds : goal.returns-then-index-binds
returns-then-index-binds c =
    let l = length-records (size Binds) c.args.binds.now in
    wrong-length (table Binds c.args.binds.now) c.args.index.now (omega arith) (λ e. c.if-index-binds.true (e ∙ l))

pub returns : goal.returns
returns c =
    let l = length-records (size Binds) c.args.binds.now in
    checked (table Binds c.args.binds.now) c.args.index.now c.count_used-n.result (omega arith) (c.if-index-binds.false ∙ sym l) c.count_used-n.ensures
    c.rising_used-ordered.ensures c.all_at-rest.ensures
