-- As far as the loop has come, so many versions are freed.
use Rattle.std.proofs.Common.{◌≡◌, ◌+◌, ℕ, List, [], Option, Some, None, false, vec_len, vec_capacity}
use Rattle.slab.specs.Slab.{slab_len}
use Rattle.jr_stamps.specs.declared.pins.Pin.{Pin}
use Rattle.jr_version_heap.specs.declared.version.Past.{Past}
use Rattle.jr_version_heap.specs.declared.version.Home.TheVariants.{Loose}
use Rattle.jr_version_heap.specs.Versions.{IsChained, is_pending}
use Rattle.jr_version_heap.specs.Needs.{Body, IsKept, body_in}
use Rattle.jr_version_heap.proofs.needs.free.Given as goal

abbrev pub invariant-loop-freed : goal.invariant-loop-freed
invariant-loop-freed l =
    ((newest : List ℕ) (past : Past) (pins : List (Option Pin)) → IsChained newest l.initial.versions.slots past
    → IsKept (body_in l.initial.versions.slots) pins l.initial.pending.items Loose None [] 0 (vec_capacity l.initial.pending)
    → IsChained newest l.versions.slots past × IsKept (body_in l.versions.slots) pins l.pending.items Loose None [] 0 (vec_capacity l.initial.pending))
    × ((k : ℕ) (b : Body) → body_in l.initial.versions.slots k ≡ Some b → is_pending b.home ≡ false → body_in l.versions.slots k ≡ Some b)
    × (vec_len l.pending + l.freed ≡ vec_len l.initial.pending)
    × (vec_capacity l.pending ≡ vec_capacity l.initial.pending)
    × (slab_len l.versions + l.freed ≡ slab_len l.initial.versions)
    × (l.versions.capacity ≡ l.initial.versions.capacity)
