-- `hosting::free_binds` meets its contract: two removals are one, of what passes either test.
use Rattle.hosting.proofs.Hosting.{binds_freed}
use Rattle.hosting.proofs.free_binds.Goals as goal

pub returns : goal.returns
returns c =
    binds_freed _ _ c.address_octets-named.ensures c.part_start-source.ensures c.part_start-destination.ensures c.free_matching.ensures
    c.free_matching-2.ensures
