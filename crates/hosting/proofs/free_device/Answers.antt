-- `hosting::free_device` meets its contract: three removals by the octets of the address.
use Rattle.hosting.proofs.Hosting.{device_freed}
use Rattle.hosting.proofs.free_device.Goals as goal

pub returns : goal.returns
returns c =
    device_freed _ _ _ _ c.address_octets-address.ensures c.free_matching.ensures c.free_binds.ensures c.free_matching-2.ensures
