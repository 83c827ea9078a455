-- What the writer of a header asks of what it is given.
use Rattle.std.specs.Prelude.{◌<◌}
use Rattle.rules.specs.Types.{Fields}

-- fields that a header has room for (document 01, The message): flags of one bit, addresses and UIDs of fifteen
pub record Ranged (f : Fields) : Type 0 where
  pub source : f.source.0 < 32768
  pub address_type_of : f.address_type < 2
  pub destination : f.destination < 32768
  pub interface_type_of : f.interface_type < 2
  pub uid : f.uid < 32768
