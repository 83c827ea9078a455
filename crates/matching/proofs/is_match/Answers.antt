-- `matching::is_match` meets its contract. A free record matches no message.
use Rattle.layouts.proofs.Copied.{whole-record}
use Rattle.records.specs.Search.{passes}
use Rattle.matching.proofs.is_match.Goals as goal

pub returns : goal.returns
unfolding passes
returns c = rw (c.is_free.ensures, c.bind_matches.ensures, c.bind_at.ensures, whole-record _ _ c.requires)
