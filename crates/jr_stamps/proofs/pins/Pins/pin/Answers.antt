-- The place that the search finds keeps the order.
use Rattle.std.proofs.Common.{◌+◌, refl, arith}
use Rattle.jr_stamps.specs.Order.{IsBelow, IsNotBelow}
use Rattle.jr_stamps.proofs.Orders.{in_order-insert}
use Rattle.jr_stamps.proofs.pins.Pins.pin.Goals as goal

pub invariant_of-self : goal.invariant_of-self
invariant_of-self c =
    let u = c.insert_reserved-key.ensures.updates in
    let low : IsBelow c.self.inside.order.items (c.args.stamp.0 + 1) c.count_below-at.result = rw (← c.deref.ensures.value) c.count_below-at.ensures.below in
    let high : IsNotBelow c.self.inside.order.items (c.args.stamp.0 + 1) c.count_below-at.result = rw (← c.deref.ensures.value) c.count_below-at.ensures.behind in
    rw c.in-Ok.ensures.items
    (in_order-insert c.self.inside.pins.slots _ c.self.inside.order.items _ _ _ c.self.invariant (rw (← c.deref.ensures.value) c.count_below-at.ensures.within)
    c.insert_reserved-key.ensures.was_vacant u.changed refl u.others
    (λ k d h. let l = low k d h in omega (arith, l)) (λ k d le h. let l = high k d le h in omega (arith, l)))
