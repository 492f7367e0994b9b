-- The kinds at places, where those of all places stand in one list.
use Rattle.std.specs.Prelude.{◌≡◌, ℕ, ◌+◌, ◌≤◌, List, ◌++◌, length, Option, Some, None, take, drop, reverse, slice_get}
use Rattle.jr_base.specs.declared.kind.SlotKind.{SlotKind}
use Rattle.jr_code.specs.declared.shapes.Span.{Span}

-- the kinds of a place, topmost first
abbrev pub shape_of : List SlotKind → Option Span → Option (List SlotKind)
shape_of kinds None = None
shape_of kinds (Some span) = Some (reverse (take span.count (drop span.first kinds)))

-- the kinds of each place stand before that end
abbrev pub AreWithin : ℕ → List (Option Span) → Type 0
AreWithin end places = (at : ℕ) (span : Span) → slice_get places at ≡ Some (Some span) → span.first + span.count ≤ end

-- the first place has kinds, none
abbrev pub BeginsEmpty : List (Option Span) → Type 0
BeginsEmpty places = (span : Span) × (slice_get places 0 ≡ Some (Some span)) × (span.count ≡ 0)

-- so many kinds stand at some place, and at none more
pub record IsLongest (places : List (Option Span)) (count : ℕ) : Type 0 where
  pub each : (at : ℕ) (span : Span) → slice_get places at ≡ Some (Some span) → span.count ≤ count
  pub some : (at : ℕ) × (span : Span) × (slice_get places at ≡ Some (Some span)) × (span.count ≡ count)

-- the list ends with so many of the kinds, from the first one on
pub record IsShared (all kinds : List SlotKind) (count : ℕ) : Type 0 where
  pub few : count ≤ length kinds
  pub front : List SlotKind
  pub split : all ≡ front ++ take count kinds
