-- `nearby::near_in_order` meets its contract. Those who are reached are whom all binds reach, and so no more than the binds and the member records.
use Rattle.words.specs.Basics.{refl, arith}
use Rattle.delivery.proofs.Enough.{all_units, length-all_units, enough_within}
use Rattle.delivery.proofs.Delivering.{collected_fits, collected_ordered}
use Rattle.nearby.proofs.Reaching.{near-listed, near_within, near-ordered}
use Rattle.nearby.proofs.near_in_order.Goals as goal

pub take_near-r-requires : goal.take_near-r-requires
take_near-r-requires c =
    let bs = c.args.binds.now in
    let ms = c.args.members.now in
    let few = c.requires.0.binds in (
      near-listed bs (λ i. omega (arith, c.type_inv.binds i)) few c.requires.1,
      enough_within (all_units bs ms) refl (near_within bs (λ i. omega (arith, c.type_inv.binds i)) few c.requires.1 ms c.args.except c.args.f)
          (omega (arith, length-all_units bs ms, c.requires.0.room)),
    )

pub order-requires : goal.order-requires
order-requires c =
    let bs = c.args.binds.now in
    let ms = c.args.members.now in
    collected_fits refl c.take_near-r.ensures (all_units bs ms)
    (near_within bs (λ i. omega (arith, c.type_inv.binds i)) c.requires.0.binds c.requires.1 ms c.args.except c.args.f)
    (omega (arith, length-all_units bs ms, c.requires.0.binds, c.requires.0.members))
    (omega (arith, length-all_units bs ms, c.requires.0.room, c.take_near-r.auto.list))

pub returns : goal.returns
returns c =
    rw (near-ordered c.args.binds.now (λ i. omega (arith, c.type_inv.binds i)) c.requires.0.binds c.requires.1 c.args.members.now c.args.except c.args.f) at
    (collected_ordered refl c.take_near-r.ensures c.order.ensures)
