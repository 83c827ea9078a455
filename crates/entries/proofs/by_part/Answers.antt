-- `entries::by_part` meets its contract: what it looks for is the payload, a source's top bit ignored.
use Rattle.entries.proofs.Listed.{by_part}
use Rattle.entries.proofs.by_part.Goals as goal

pub returns : goal.returns
returns c = rw (← by_part c.args.part c.args.payload.now _ c.part_start-from.ensures c.wanted-want.ensures) c.write_listing.ensures
