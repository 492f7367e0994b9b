-- The pin has its place behind those of lower stamps.
use Rattle.jr_stamps.specs.Order.{IsBelow}
use Rattle.jr_stamps.proofs.Orders.{in_order-remove, placed_behind}
use Rattle.jr_stamps.proofs.pins.Pins.unpin.Goals as goal

pub place_of-at-requires : goal.place_of-at-requires
place_of-at-requires c =
    let low : IsBelow c.self.inside.order.items c.remove.result.stamp.0 c.count_below-first.result = rw (← c.deref.ensures.value) c.count_below-first.ensures.below in
    rw c.deref-2.ensures.value (placed_behind c.self.inside.pins.slots _ _ c.args.pin.0 c.remove.result c.self.invariant low c.remove.ensures.value)

pub invariant_of-self : goal.invariant_of-self
invariant_of-self c =
    let u = c.remove.ensures.updates in
    rw c.remove-2.ensures.items
    (in_order-remove c.self.inside.pins.slots _ _ _ c.args.pin.0 c.self.invariant (rw (← c.deref-2.ensures.value) c.place_of-at.ensures.within)
    (rw (← c.deref-2.ensures.value) c.place_of-at.ensures.key) u.changed u.others)
