-- The new pin has the greatest stamp.
use Rattle.std.proofs.Common.{arith}
use Rattle.jr_version_heap.proofs.Stands.{pinned_was}
use Rattle.jr_version_heap.proofs.Stamps.{pinned_upto}
use Rattle.jr_version_heap.proofs.tests.pin_and_write.Goals as goal

pub write-requires-clause-pinned : goal.write-requires-clause-pinned
write-requires-clause-pinned c = λ k pinned.
    let u = pinned_upto c.args.heap.now.pins c.pin-pin.new.self.pins c.pin-pin.result.0 k c.args.stamp _ c.pin-pin.ensures.pinned c.requires.pinned (omega arith) pinned in
    let o = c.requires.order in omega arith

pub returns-clause-upto : goal.returns-clause-upto
returns-clause-upto c = λ k pinned.
    pinned_upto c.args.heap.now.pins c.pin-pin.new.self.pins c.pin-pin.result.0 k c.args.stamp _ c.pin-pin.ensures.pinned c.requires.pinned (omega arith)
    (pinned_was c.pin-pin.new.self.pins c.write.new.self.pins k c.write.ensures.pins pinned)
