-- No stamp past 7 is pinned yet.
use Rattle.std.proofs.Common.{arith}
use Rattle.jr_version_heap.proofs.tests.pinned_twice.Goals as goal

pub pin_and_write-eight-requires-clause-pinned : goal.pin_and_write-eight-requires-clause-pinned
pin_and_write-eight-requires-clause-pinned c = λ k pinned. let u = c.pin_and_write-seven.ensures.upto k pinned in omega arith
