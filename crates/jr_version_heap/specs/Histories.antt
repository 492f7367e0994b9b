-- What a history of makes and writes shows, and what a heap with versions shows.
use Rattle.std.specs.Prelude.{◌≡◌, ◌≢◌, ◌⊎◌, ◌==◌, ◌&&◌, ℕ, ◌+◌, ◌-◌, ◌≤◌, ◌<◌, List, [], ◌∷◌, length, Option, Some, None, Bool, false, cond, nat_lt, slice_get, is_some, count_by}
use Rattle.jr_base.specs.declared.number.ObjId.{ObjId}
use Rattle.jr_base.specs.declared.value.Cell.{Cell}
use Rattle.jr_base.specs.declared.value.Value.{Value}
use Rattle.jr_base.specs.declared.value.Ask.{Ask}
use Rattle.jr_base.specs.declared.value.Ask.TheVariants as asks
use Rattle.jr_base.specs.declared.value.Seen.{Seen}
use Rattle.jr_base.specs.declared.value.Seen.TheVariants as answers
use Rattle.jr_base.specs.Spare.{Spare}
use Rattle.jr_heap.specs.declared.layout.Place.{Place}
use Rattle.jr_heap.specs.Layout.{LayoutOf, object_at, slot_at}
use Rattle.jr_heap.specs.Plain.{seen_value, seen_length}
use Rattle.jr_stamps.specs.declared.pins.Pin.{Pin}
use Rattle.jr_stamps.specs.Pins.{PinsOf, IsPinned}
use Rattle.jr_version_heap.specs.declared.version.Past.{Past}
use Rattle.jr_version_heap.specs.declared.version.Version.{Version}
use Rattle.jr_version_heap.specs.declared.version.Home.TheVariants.{Loose}
use Rattle.jr_version_heap.specs.Versions.{IsChained, LAST}
use Rattle.jr_version_heap.specs.Needs.{Body, body_in, IsKept, IsNeeded, IsUnneeded, Has, IsOnce}

-- ---- a history

-- what changes a heap, with the first step before which the change stands: 0 for what stands before step 0
pub data Change : Type 0 where
  Made : (object : ObjId) (array : Bool) (values : List Value) (since : ℕ) → Change
  Wrote : (cell : Cell) (value : Value) (since : ℕ) → Change

abbrev pub same_cell : Cell → Cell → Bool
same_cell a b = (a.obj.0 == b.obj.0) && (a.slot == b.slot)

-- the place of an object that is made with so many cells
abbrev pub place_of : Bool → List Value → ℕ → Place
place_of array values since = record { array = array; start = 0; len = length values; since = since }

-- what is seen before step k, of what was seen without the change
abbrev pub after : Change → Ask → ℕ → Seen → Seen
after (Made object array values since) (asks.Cell cell) k before =
    cond (nat_lt k since) before (cond (cell.obj.0 == object.0) (seen_value (slice_get values cell.slot)) before)
after (Made object array values since) (asks.Length other) k before =
    cond (nat_lt k since) before (cond (other.0 == object.0) (seen_length (Some (place_of array values since))) before)
after (Wrote at value since) (asks.Cell cell) k before = cond (nat_lt k since) before (cond (same_cell cell at) (answers.Value value) before)
after (Wrote at value since) (asks.Length other) k before = before

abbrev pub seen_from : Seen → List Change → Ask → ℕ → Seen
seen_from before [] what k = before
seen_from before (c ∷ cs) what k = seen_from (after c what k before) cs what k

-- what is seen before step k
abbrev pub seen_before : List Change → Ask → ℕ → Seen
seen_before changes what k = seen_from answers.Absent changes what k

-- ---- a heap with versions

-- the objects with their places, the versions by their keys, the pins, the keys of the pending versions, how far the history
-- goes, for how many more cells there is room, and for how many versions there is, with those that are kept
pub record VersionsOf : Type 0 where
  pub layout : LayoutOf
  pub versions : List (Option Version)
  pub pins : PinsOf
  pub pending : List ℕ
  pub past : Past
  pub spare_cells : ℕ
  pub room : ℕ

-- how many versions are kept
abbrev pub version_count : VersionsOf → ℕ
version_count m = count_by is_some m.versions

-- for how many more versions there is room
abbrev pub spare_versions : VersionsOf → ℕ
spare_versions m = m.room - version_count m

-- a stamp may be read that is pinned, or past the last write
abbrev pub IsReadable : VersionsOf → ℕ → Type 0
IsReadable m k = IsPinned m.pins k ⊎ (m.past.writes ≤ k)

-- the place of a slot, if its object was made before step k
abbrev pub slot_then : Option Place → ℕ → ℕ → Option ℕ
slot_then None slot k = None
slot_then (Some p) slot k = cond (nat_lt k p.since) None (slot_at (Some p) slot)

abbrev pub length_then : Option Place → ℕ → Seen
length_then None k = answers.Absent
length_then (Some p) k = cond (nat_lt k p.since) answers.Absent (seen_length (Some p))

-- a version of that cell serves step k
pub record IsShown (versions : List (Option Version)) (at k : ℕ) (seen : Seen) : Type 0 where
  pub key : ℕ
  pub body : Body
  pub is : body_in versions key ≡ Some body
  pub place : body.place ≡ at
  pub since : body.since ≤ k
  pub upto : k ≤ body.upto
  pub value : seen ≡ answers.Value body.value

abbrev pub ShowsAt : List (Option Version) → Option ℕ → ℕ → Seen → Type 0
ShowsAt versions None k seen = seen ≡ answers.Absent
ShowsAt versions (Some at) k seen = IsShown versions at k seen

abbrev pub ShowsIn : LayoutOf → List (Option Version) → Ask → ℕ → Seen → Type 0
ShowsIn layout versions (asks.Cell cell) k seen = ShowsAt versions (slot_then (object_at layout cell.obj) cell.slot k) k seen
ShowsIn layout versions (asks.Length object) k seen = seen ≡ length_then (object_at layout object) k

-- the versions that are kept show this before step k
abbrev pub Shows : VersionsOf → Ask → ℕ → Seen → Type 0
Shows m what k seen = ShowsIn m.layout m.versions what k seen

-- each stamp that may be read shows what the history says
abbrev pub StandsFor : VersionsOf → List Change → Type 0
StandsFor m changes = (what : Ask) (k : ℕ) → k < 4294967296 → IsReadable m k → Shows m what k (seen_before changes what k)

-- Each version that is kept is the newest of its cell, or a pinned stamp needs it, or it is pending. Those that are pending
-- are kept, each once; each was replaced, and no pinned stamp needs one.
pub record KeepsWhatIsRead (m : VersionsOf) : Type 0 where
  pub kept : (key : ℕ) (b : Body) → body_in m.versions key ≡ Some b → (b.upto ≡ LAST) ⊎ (IsNeeded m.pins.pins b ⊎ Has key m.pending)
  pub pending : (key : ℕ) → Has key m.pending → (b : Body) × (body_in m.versions key ≡ Some b) × (b.upto ≢ LAST) × IsUnneeded m.pins.pins b
  pub once : IsOnce m.pending
  -- two versions of a cell serve no common stamp, so a cell has one newest version, and one for a stamp
  pub apart : (key other : ℕ) (b c : Body) → body_in m.versions key ≡ Some b → body_in m.versions other ≡ Some c → key ≢ other → b.place ≡ c.place
      → (b.upto < c.since) ⊎ (c.upto < b.since)

-- ---- the first objects

-- objects with the numbers from `number` on, none an array, which stand before step 0
abbrev pub first_objects : ℕ → List (Spare Value) → List Change
first_objects number [] = []
first_objects number (values ∷ rest) = Made (record { 0 = number }) false values.items 0 ∷ first_objects (number + 1) rest

-- a place with so many cells, no array, from before step 0 on
pub record IsFirst (p : Place) (cells : ℕ) : Type 0 where
  pub array : p.array ≡ false
  pub len : p.len ≡ cells
  pub since : p.since ≡ 0

-- the layout has these objects, with the numbers from 1 on, and no other
pub record HasFirstObjects (layout : LayoutOf) (first : List (Spare Value)) : Type 0 where
  pub there : (i : ℕ) (values : Spare Value) → slice_get first i ≡ Some values → (p : Place) × (object_at layout (record { 0 = i + 1 }) ≡ Some p) × IsFirst p (length values.items)
  pub none : object_at layout (record { 0 = 0 }) ≡ None
  pub others : (o : ObjId) → length first < o.0 → object_at layout o ≡ None

-- ---- what holds of the parts of a heap

pub record IsHeap (layout : LayoutOf) (newest : List ℕ) (versions : List (Option Version)) (pins : List (Option Pin)) (pending : List ℕ) (past : Past) (limit : ℕ) : Type 0 where
  pub count : length newest ≡ layout.cells
  pub chained : IsChained newest versions past
  -- there is room for each version to be pending
  pub kept : IsKept (body_in versions) pins pending Loose None [] 0 limit
  pub made : (object : ObjId) (place : Place) → object_at layout object ≡ Some place → place.since ≤ past.changes

-- how many versions there may be whose keys fit a u32, and for each of which there is room to be pending
abbrev pub room_of : ℕ → ℕ → ℕ
room_of capacity pending = cond (nat_lt 4294967295 capacity) 0 (cond (nat_lt pending capacity) 0 capacity)
