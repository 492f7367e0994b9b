-- What is counted in a run, and limited.
use Rattle.std.specs.Prelude.{◌+◌, ℕ, true, nat_lt, Bool, cond, is_some, List, [], ◌∷◌, length, Option}
use Rattle.std.specs.List.{find, sum_by}
use Rattle.jr_base.specs.Deed.{Deed, Call, New, Enter, Resume, Start}
use Rattle.jr_base.specs.declared.number.GuestNo.{GuestNo}
use Rattle.jr_base.specs.declared.finish.LimitKind.{LimitKind}
use Rattle.jr_base.specs.declared.finish.LimitKind.TheVariants.{Guests, Frames, Objects, Cells, Held}
use Rattle.jr_program.specs.Programs.{Program}
use Rattle.jr_program.specs.Slots.{field_count}
use Rattle.jr_meaning.specs.World.{World, ObjectKind, ClassObject, Made, guest_of, size_of}
use Rattle.jr_meaning.specs.Machine.{owns, locks_of}

-- the most of a kind that there may be
abbrev pub limit_of : LimitKind → ℕ
limit_of Guests = 16
limit_of Frames = 256
limit_of Objects = 65536
limit_of Cells = 1048576
limit_of Held = 64

-- so many of a kind
pub record Count : Type 0 where
  pub kind : LimitKind
  pub count : ℕ

-- how many cells an object has
abbrev pub cells_in : Program → ObjectKind → ℕ
cells_in program (ClassObject class) = field_count program class true
cells_in program (Made kind) = size_of program kind

abbrev pub cell_count : Program → World → ℕ
cell_count program world = sum_by (cells_in program) world.objects

-- How many of each kind there would be after a guest's step, of those kinds that it adds to; the guest has so many
-- frames. The objects come before their cells. A Resume takes back what the guest's Wait gave up.
abbrev pub counts_by : Program → World → ℕ → GuestNo → Deed → List Count
counts_by program world frames g (Call method this arguments) = record { kind = Frames; count = frames + 1 } ∷ []
counts_by program world frames g (New kind) =
    record { kind = Objects; count = length world.objects + 1 } ∷ record { kind = Cells; count = cell_count program world + cells_in program (Made kind) } ∷ []
counts_by program world frames g (Enter object way) = cond (owns world g object) [] (record { kind = Held; count = length (locks_of world g) + 1 } ∷ [])
counts_by program world frames g (Resume object) = record { kind = Held; count = length (locks_of world g) + 1 } ∷ []
counts_by program world frames g (Start object) = cond (is_some (guest_of world object)) [] (record { kind = Guests; count = length world.guests + 1 } ∷ [])
counts_by program world frames g _ = []

abbrev pub is_past : Count → Bool
is_past c = nat_lt (limit_of c.kind) c.count

-- the first kind that the step would bring past its limit
abbrev pub past_limit : Program → World → ℕ → GuestNo → Deed → Option Count
past_limit program world frames g deed = find is_past (counts_by program world frames g deed)
