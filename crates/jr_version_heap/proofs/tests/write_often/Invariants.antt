-- So many versions were taken, and no stamp is pinned.
use Rattle.std.proofs.Common.{◌≡◌, ◌+◌, ◌≤◌, ℕ}
use Rattle.jr_stamps.specs.Pins.{IsPinned}
use Rattle.jr_version_heap.specs.Histories.{spare_versions}
use Rattle.jr_version_heap.proofs.tests.write_often.Given as goal

abbrev pub invariant-loop-step : goal.invariant-loop-step
invariant-loop-step l =
    (l.heap.layout ≡ l.initial.heap.layout)
    × (l.times ≤ spare_versions l.heap + l.step)
    × (l.heap.past.changes ≤ l.step + 1)
    × ((k : ℕ) → IsPinned l.heap.pins k → ⊥)
