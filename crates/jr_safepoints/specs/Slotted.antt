-- How many fields of each class are static, and how many are not.
use Rattle.std.specs.Prelude.{◌≡◌, ℕ, Bool, true, false, List, slice_index_or}
use Rattle.std.specs.List.{count_by}
use Rattle.jr_program.specs.Programs.{Field}
use Rattle.jr_program.specs.Slots.{is_of}
use Rattle.jr_safepoints.specs.declared.slots.Slots.{Slots}

-- by the classes' numbers; none past the last count
abbrev pub AreCounted : Bool → List Field → List ℕ → Type 0
AreCounted is_static fields counts = (n : ℕ) → slice_index_or counts n 0 ≡ count_by (is_of (record { 0 = n }) is_static) fields

pub record CountsAll (fields : List Field) (s : Slots) : Type 0 where
  pub statics : AreCounted true fields s.statics.items
  pub others : AreCounted false fields s.others.items
