-- `nearby::deliver` meets its contract. A message to the bind address goes by the index, any other by the plain delivery.
use Rattle.delivery.proofs.Delivering.{delivered-binds}
use Rattle.nearby.proofs.Reaching.{to_bind_address_lem}
use Rattle.nearby.proofs.deliver.Goals as goal

pub returns-then-to_binds : goal.returns-then-to_binds
returns-then-to_binds c =
    delivered-binds c.args.binds.now c.args.members.now c.args.f c.args.list.now
    (to_bind_address_lem c.args.to c.to_binds.ensures c.if-to_binds.true) c.sender.ensures c.near_in_order.ensures
