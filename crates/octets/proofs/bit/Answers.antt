-- `octets::bit` meets its contract. A mask of one bit is a remainder.
use lib.Bits.{and_mask}
use Rattle.words.specs.Basics.{◌/◌, ◌^◌}
use Rattle.rules.specs.Octets.{bit}
use Rattle.octets.proofs.bit.Goals as goal

pub returns : goal.returns
unfolding bit
returns c = and_mask (c.args.octet / 2 ^ c.args.k) 1
