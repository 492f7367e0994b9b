-- Each stamp that is read is pinned still, or past the last write.
use Rattle.std.proofs.Common.{inl, ap, arith}
use Rattle.jr_version_heap.specs.Needs.{stamp_of}
use Rattle.jr_version_heap.proofs.Stamps.{stamp_pinned}
use Rattle.jr_version_heap.proofs.tests.shows_each_pinned_step.Goals as goal

pub pin_and_write-requires-2-clause-pinned : goal.pin_and_write-requires-2-clause-pinned
pin_and_write-requires-2-clause-pinned g c = λ k pinned. let u = c.pin_and_write.ensures.upto k pinned in omega arith

pub pin_and_write-requires-3-clause-pinned : goal.pin_and_write-requires-3-clause-pinned
pin_and_write-requires-3-clause-pinned g c = λ k pinned. let u = c.pin_and_write-2.ensures.upto k pinned in omega arith

pub read_at-requires : goal.read_at-requires
read_at-requires g c =
    let p = c.pin.result.0 in
    inl (stamp_pinned c.pin_and_write-3.new.heap.pins p 2
    (c.pin_and_write-3.ensures.others p 2 (c.pin_and_write-2.ensures.others p 2 (c.pin_and_write.ensures.others p 2 (ap stamp_of c.pin.ensures.pinned.changed)))))

pub read_at-requires-2 : goal.read_at-requires-2
read_at-requires-2 g c =
    let p = c.pin_and_write.result.0 in
    inl (stamp_pinned c.pin_and_write-3.new.heap.pins p 3 (c.pin_and_write-3.ensures.others p 3 (c.pin_and_write-2.ensures.others p 3 c.pin_and_write.ensures.pinned)))

pub read_at-requires-3 : goal.read_at-requires-3
read_at-requires-3 g c =
    let p = c.pin_and_write-2.result.0 in
    inl (stamp_pinned c.pin_and_write-3.new.heap.pins p 7 (c.pin_and_write-3.ensures.others p 7 c.pin_and_write-2.ensures.pinned))

pub read_at-requires-4 : goal.read_at-requires-4
read_at-requires-4 g c = inl (stamp_pinned c.pin_and_write-3.new.heap.pins c.pin_and_write-3.result.0 8 c.pin_and_write-3.ensures.pinned)
