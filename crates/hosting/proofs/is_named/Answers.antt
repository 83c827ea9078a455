-- `hosting::is_named` meets its contract: by source, or by individual destination.
use Rattle.words.specs.Basics.{refl}
use Rattle.hosting.proofs.Hosting.{named_by}
use Rattle.hosting.proofs.is_named.Goals as goal

pub returns : goal.returns
returns c = named_by _ _ c.address_octets-wanted.ensures refl refl c.has-source.ensures c.has-destination.ensures
