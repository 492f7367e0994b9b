-- Where the cells of objects stand.
use Rattle.std.specs.Prelude.{◌≡◌, ◌≢◌, ◌⊎◌, ℕ, ◌+◌, ◌≤◌, ◌<◌, List, Option, Some, None, cond, nat_lt, nat_eq}
use Rattle.std.specs.Map.{lookup}
use Rattle.jr_base.specs.declared.number.ObjId.{ObjId}
use Rattle.jr_base.specs.declared.value.Cell.{Cell}
use Rattle.jr_heap.specs.declared.layout.Place.{Place}

-- an int counts the elements of an array
abbrev pub MAX_CELLS : ℕ
MAX_CELLS = 2147483647

-- the objects with their places, the number of cells, and the room for more objects
pub record LayoutOf : Type 0 where
  pub objects : List (ℕ × Place)
  pub cells : ℕ
  pub spare : ℕ

abbrev pub find_object : List (ℕ × Place) → ℕ → Option Place
find_object objects o = lookup (nat_eq o) objects

abbrev pub object_at : LayoutOf → ObjId → Option Place
object_at l o = find_object l.objects o.0

-- the place of a slot of an object
abbrev pub slot_at : Option Place → ℕ → Option ℕ
slot_at None slot = None
slot_at (Some p) slot = cond (nat_lt slot p.len) (Some (p.start + slot)) None

abbrev pub cell_at : LayoutOf → Cell → Option ℕ
cell_at l c = slot_at (object_at l c.obj) c.slot

-- the new layout has this object too, and each other object as before
pub record Adds (old : LayoutOf) (o : ObjId) (p : Place) (new : LayoutOf) : Type 0 where
  pub added : object_at new o ≡ Some p
  pub others : (other : ObjId) → other.0 ≢ o.0 → object_at new other ≡ object_at old other

-- each object's cells stand below the number of cells, and no two objects share one
pub record IsLaidOut (objects : List (ℕ × Place)) (cells : ℕ) : Type 0 where
  pub few : cells ≤ MAX_CELLS
  pub within : (o : ℕ) (p : Place) → find_object objects o ≡ Some p → p.start + p.len ≤ cells
  pub apart : (o other : ℕ) (p q : Place) → other ≢ o → find_object objects o ≡ Some p → find_object objects other ≡ Some q
      → (p.start + p.len ≤ q.start) ⊎ (q.start + q.len ≤ p.start)

-- each cell has a place below the number of cells, which no other cell has
pub record HasOwnPlaces (l : LayoutOf) : Type 0 where
  pub below : (c : Cell) (at : ℕ) → cell_at l c ≡ Some at → at < l.cells
  pub own : (c d : Cell) (at : ℕ) → cell_at l c ≡ Some at → cell_at l d ≡ Some at → d ≡ c
