-- `octets::fill_at` meets its contract.
use Rattle.words.specs.Basics.{◌≡◌, ◌+◌, ◌-◌, arith, length, take, drop, length-take, length-drop, length-replicate}
use Rattle.octets.proofs.Runs.{part-sets}
use Rattle.octets.proofs.fill_at.Goals as goal

pub returns : goal.returns
returns c =
    let a = c.args in
    let e : length (take (a.at + a.n - a.at) (drop a.at a.s.now)) ≡ a.n = rw (length-take, length-drop) (omega arith) in
    rw (c.fill.ensures.after, e) (part-sets _ _ _ _ (length-replicate _ _) c.requires)
