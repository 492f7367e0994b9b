-- As far as the loop has come, each value is that of a new cell.
use Rattle.std.proofs.Common.{◌≡◌, ◌+◌, ◌≤◌, ◌<◌, ℕ, List, [], Option, None, length, vec_len, vec_capacity}
use Rattle.slab.specs.Slab.{slab_len}
use Rattle.jr_stamps.specs.declared.pins.Pin.{Pin}
use Rattle.jr_version_heap.specs.declared.version.Home.TheVariants.{Loose}
use Rattle.jr_version_heap.specs.declared.version.Past.{Past}
use Rattle.jr_version_heap.specs.Versions.{IsChained, HasFirsts}
use Rattle.jr_version_heap.specs.Needs.{IsKept, body_in}
use Rattle.jr_version_heap.proofs.cells.add_cells.Given as goal

abbrev pub invariant-loop-value : goal.invariant-loop-value
invariant-loop-value l =
    ((past : Past) → l.since ≤ past.changes → IsChained l.initial.newest.items l.initial.versions.slots past → IsChained l.newest.items l.versions.slots past)
    × HasFirsts l.initial.versions.slots l.versions.slots (vec_len l.initial.newest) l.values l.since l.value-index
    × ((pins : List (Option Pin)) (pending : List ℕ) (limit : ℕ) → (0 < length l.values → (l.initial.versions.capacity ≤ limit) × (l.initial.versions.capacity < 4294967296))
    → IsKept (body_in l.initial.versions.slots) pins pending Loose None [] 0 limit → IsKept (body_in l.versions.slots) pins pending Loose None [] 0 limit)
    × (vec_len l.newest ≡ vec_len l.initial.newest + l.value-index)
    × (vec_capacity l.newest ≡ vec_capacity l.initial.newest)
    × (slab_len l.versions ≡ slab_len l.initial.versions + l.value-index)
    × (l.versions.capacity ≡ l.initial.versions.capacity)
