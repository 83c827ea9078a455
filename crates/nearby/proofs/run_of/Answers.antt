-- `nearby::run_of` meets its contract. Past a device no fewer entries are below than before it.
use Rattle.rules.specs.Types.{Binds}
use Rattle.rules.specs.Frame.{table}
use Rattle.nearby.proofs.Running.{device-rises}
use Rattle.nearby.proofs.run_of.Goals as goal

pub count_from-to-requires : goal.count_from-to-requires
count_from-to-requires c = (
  c.requires,
  rw (c.count_below-from.ensures, c.first_rank.ensures, c.rank_past.ensures)
      (device-rises (table Binds c.args.binds.now) c.args.index.now c.args.device.0),
)

pub returns : goal.returns
returns c = record {
  begins = rw (← c.first_rank.ensures) c.count_below-from.ensures;
  ends = rw (← c.rank_past.ensures) c.count_from-to.ensures;
}
