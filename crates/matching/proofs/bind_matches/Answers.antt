-- `matching::bind_matches` meets its contract. Each field is one check.
use Rattle.rules.specs.Lists.{◌&◌}
use Rattle.rules.specs.Recipients.{bind_matches}
use Rattle.matching.proofs.bind_matches.Goals as goal

pub returns : goal.returns
unfolding bind_matches ◌&◌
returns c = cc
