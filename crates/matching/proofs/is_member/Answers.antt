-- `matching::is_member` meets its contract. A group's address is the first two octets of a member.
use Rattle.words.specs.Basics.{◌∙◌}
use Rattle.rules.specs.Tables.{addressed}
use Rattle.records.specs.Search.{passes}
use Rattle.matching.proofs.is_member.Goals as goal

pub returns : goal.returns
unfolding passes addressed
returns c = c.is_match.ensures ∙ rw c.address_octets.ensures
