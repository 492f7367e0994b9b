-- A heap of which it is known how many objects and cells there are, and the world that it stands for.
use Rattle.std.specs.Prelude.{◌≡◌, ◌<◌, ◌+◌, ◌^◌, ℕ, Bool, cond, List, ◌++◌, ◌∷◌, [], length, slice_get, Some, None}
use Rattle.jr_base.specs.declared.number.ObjId.{ObjId}
use Rattle.jr_base.specs.declared.value.Value.{Value}
use Rattle.jr_base.specs.declared.value.Ask.{Ask}
use Rattle.jr_heap.specs.Layout.{object_at}
use Rattle.jr_heap.specs.Plain.{Plain, seen_in}
use Rattle.jr_program.specs.Programs.{Program}
use Rattle.jr_meaning.specs.World.{World, ObjectKind, next_object, with_slots, length_in}
use Rattle.jr_meaning.specs.Cells.{first_in}
use Rattle.jr_meaning.specs.Heap.{heap_of}
use Rattle.jr_meaning.specs.Limits.{Count, cells_in, cell_count}
use Rattle.jr_drive.specs.declared.counted.Excess.{Excess}

pub record Counted : Type 0 where
  pub heap : Plain
  pub objects : ℕ
  pub cells : ℕ

-- the number past the last object is one of 32 bits too, and no object stands past the last
pub record IsCounted (heap : Plain) (objects : ℕ) : Type 0 where
  pub room : objects + 1 < 2 ^ 32
  pub none_past : (object : ObjId) → objects < object.0 → object_at heap.layout object ≡ None

-- Each cell and each length of the world is shown, and nothing else. Objects and cells are as many as in the world.
pub record StandsFor (program : Program) (counted : Counted) (world : World) : Type 0 where
  pub shown : (what : Ask) → seen_in counted.heap what ≡ heap_of world what
  pub objects : counted.objects ≡ length world.objects
  pub cells : counted.cells ≡ cell_count program world

-- an object of that kind has these values at first, and is an array or not
pub record IsMadeOf (program : Program) (kind : ObjectKind) (array : Bool) (values : List Value) : Type 0 where
  pub slots : (slot : ℕ) → slice_get values slot ≡ first_in program kind slot
  pub size : length values ≡ cells_in program kind
  pub length_if : length_in kind ≡ cond array (Some (length values)) None

-- the world with an object more
abbrev pub with_object : Program → World → ObjectKind → World
with_object program world kind =
    record world { cells = with_slots world.cells (next_object world) (first_in program kind); objects = world.objects ++ kind ∷ [] }

-- what is past its limit, and how many there would be
abbrev pub count_of : Excess → Count
count_of excess = record { kind = excess.kind; count = excess.count }
