-- `indexing::rank_at` meets its contract: the key of the bind at that position, then the position.
use Rattle.words.specs.Basics.{arith}
use Rattle.index_rules.specs.Index.{rank, entry_rank}
use Rattle.indexing.proofs.Positions.{entry_at}
use Rattle.indexing.proofs.rank_at.Goals as goal

pub returns : goal.returns
unfolding rank entry_rank
returns c =
    let e = entry_at c.args.position c.args.binds.now c.requires in
    (rw (c.bind_key.ensures.0, c.bind_at.ensures, e) (omega arith), omega (arith, c.bind_key.ensures.1))
