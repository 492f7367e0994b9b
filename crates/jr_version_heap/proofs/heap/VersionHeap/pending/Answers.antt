-- The pending versions are distinct keys that fit a u32.
use Rattle.std.proofs.Common.{subst, arith}
use Rattle.jr_version_heap.specs.Histories.{KeepsWhatIsRead}
use Rattle.jr_version_heap.specs.contracts.heap.VersionHeap.{the_view}
use Rattle.jr_version_heap.proofs.Pinned.{keeps_what_is_read, pending_few}
use Rattle.jr_version_heap.proofs.heap.VersionHeap.pending.Goals as goal

pub overflow_cast-result : goal.overflow_cast-result
overflow_cast-result c = let f = pending_few (the_view c.self.inside) c.self.inside.newest.items _ c.self.invariant in omega arith

pub returns-clause-kept : goal.returns-clause-kept
returns-clause-kept c = subst KeepsWhatIsRead c.self.view_is (keeps_what_is_read (the_view c.self.inside) c.self.inside.newest.items _ c.self.invariant)
