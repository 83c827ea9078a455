-- `reindexing::reindex` meets its contract: without the entries that go the index is in order, and with the new one it is right.
use Rattle.words.specs.Basics.{◌∙◌}
use Rattle.index_rules.proofs.Moving.{stale_listed, stale_moved}
use Rattle.reindexing.proofs.reindex.Goals as goal

pub put_in_used-requires : goal.put_in_used-requires
put_in_used-requires c = rw c.keep_used.ensures (stale_listed c.requires)

pub returns : goal.returns
returns c = c.put_in_used.ensures ∙ rw c.keep_used.ensures (stale_moved c.requires)
