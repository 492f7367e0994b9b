-- What the fields of an object hold at first (JLS 4.12.5, 12.5).
use Rattle.std.specs.Prelude.{◌≡◌, ℕ, Bool, false, List, [], length, slice_get}
use Rattle.std.specs.Option.{unwrap_or}
use Rattle.jr_base.specs.declared.number.ClassId.{ClassId}
use Rattle.jr_base.specs.declared.value.Value.{Value}
use Rattle.jr_program.specs.Programs.{Program}
use Rattle.jr_program.specs.Slots.{constant_in, field_count}

-- a list of values has what the static fields of a class, or its other fields, hold at first, by slot
pub record IsBlank (program : Program) (class : ClassId) (is_static : Bool) (values : List Value) : Type 0 where
  pub slots : (slot : ℕ) → slice_get values slot ≡ constant_in program class is_static slot
  pub size : length values ≡ field_count program class is_static

-- the list of a class, of those of all classes; a class that isn't there has no field
abbrev pub blank_of : List (List Value) → ClassId → List Value
blank_of blanks class = unwrap_or (slice_get blanks class.0) []

-- for each class, what the fields of its objects hold at first
abbrev pub AreBlanks : Program → List (List Value) → Type 0
AreBlanks program blanks = (class : ClassId) → IsBlank program class false (blank_of blanks class)
