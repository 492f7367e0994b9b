-- The last pin at or below the stamp has the greatest of these stamps.
use Rattle.std.proofs.Common.{◌+◌, arith, ap}
use Rattle.jr_stamps.specs.Pins.{PinsOf}
use Rattle.jr_stamps.specs.Order.{IsNotBelow}
use Rattle.jr_stamps.proofs.Orders.{none_below, last_below}
use Rattle.jr_stamps.proofs.pins.Pins.latest.Goals as goal

pub returns-then-behind-eq0 : goal.returns-then-behind-eq0
returns-then-behind-eq0 c =
    let same = ap (λ (s : PinsOf). s.pins) c.self.view_is in
    let high : IsNotBelow c.self.inside.order.items (c.args.upto.0 + 1) 0 = rw (← c.deref.ensures.value, ← c.if-behind-eq0.true) c.count_below-behind.ensures.behind in
    λ p pin found le. (let h = none_below c.self.inside.pins.slots _ _ c.self.invariant high p pin (rw same found) in omega (arith, h, le))

pub returns : goal.returns
returns c =
    let same = ap (λ (s : PinsOf). s.pins) c.self.view_is in
    let l = last_below c.self.inside.pins.slots c.self.inside.order.items c.args.upto.0 c.count_below-behind.result c.index-placed.result.now c.self.invariant
    (rw (← c.deref.ensures.value) c.count_below-behind.ensures.below) (rw (← c.deref.ensures.value) c.count_below-behind.ensures.behind)
    (rw (← c.deref.ensures.value) c.count_below-behind.ensures.within) c.if-behind-eq0.false c.index-placed.ensures in
    rw (← same) l
