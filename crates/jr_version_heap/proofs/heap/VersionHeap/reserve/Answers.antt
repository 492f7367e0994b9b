-- There is more room for pending versions.
use Rattle.std.proofs.Common.{ap}
use Rattle.slab.specs.Slab.{Slab}
use Rattle.jr_version_heap.specs.declared.version.Version.{Version}
use Rattle.jr_version_heap.proofs.Makes.{reserve_heap}
use Rattle.jr_version_heap.proofs.heap.VersionHeap.reserve.Goals as goal

pub invariant_of-self-in-Continue-branch-4 : goal.invariant_of-self-in-Continue-branch-4
invariant_of-self-in-Continue-branch-4 c =
    reserve_heap c.self.inside.layout c.reserve.new.self c.self.inside.newest.items c.reserve-2.new.self.items c.self.inside.versions.slots c.reserve-3.new.self.slots c.self.inside.pins.pins
    c.self.inside.pending.items c.reserve-then-pending-capacity.new.self.items c.self.inside.past _ _ c.reserve.ensures.objects c.reserve.ensures.cells c.reserve-2.ensures.items
    (ap (λ (s : Slab Version). s.slots) c.reserve-3.ensures.rest_kept) c.reserve-then-pending-capacity.ensures.items c.reserve-then-pending-capacity.ensures.capacity c.self.invariant
