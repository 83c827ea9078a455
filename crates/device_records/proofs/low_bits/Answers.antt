-- What `low_bits` returns: a shift of 1 by at most 8 stays in 16 bits.
use Rattle.words.specs.Basics.{◌≡◌, ◌*◌, ◌%◌, ◌^◌, arith}
use Rattle.rules.specs.Layout.{low_bits}
use Rattle.rules.proofs.UnitSets.{pow_most, pow_least}
use Rattle.device_records.proofs.low_bits.Goals as goal

pub returns : goal.returns
unfolding low_bits
returns c =
    let e : 1 * 2 ^ c.args.n % 65536 ≡ 2 ^ c.args.n = omega (arith, pow_most c.requires, pow_least c.args.n) in
    rw e
