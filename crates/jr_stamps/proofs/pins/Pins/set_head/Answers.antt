-- The stamp stays.
use Rattle.std.proofs.Common.{refl}
use Rattle.jr_stamps.proofs.Orders.{in_order-same}
use Rattle.jr_stamps.proofs.pins.Pins.set_head.Goals as goal

pub invariant_of-self : goal.invariant_of-self
invariant_of-self c =
    let u = c.put.ensures.updates in
    in_order-same c.self.inside.pins.slots _ _ c.args.pin.0 c.index.result.now _ c.self.invariant c.index.ensures u.changed refl u.others
