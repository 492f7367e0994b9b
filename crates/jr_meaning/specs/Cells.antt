-- Which cells the objects of a world have.
use Rattle.std.specs.Prelude.{ℕ, Bool, true, false, is_some, Option}
use Rattle.std.specs.Option.{option_map_or}
use Rattle.jr_base.specs.declared.value.Value.{Value}
use Rattle.jr_base.specs.declared.value.Cell.{Cell}
use Rattle.jr_program.specs.Programs.{Program}
use Rattle.jr_program.specs.Slots.{constant_in}
use Rattle.jr_meaning.specs.World.{World, ObjectKind, ClassObject, Made, kind_of, slots_of}

-- What an object's cells hold at first, by slot: of a class object its static fields, and of another one its fields, a
-- Thread's one cell, or an array's elements.
abbrev pub first_in : Program → ObjectKind → ℕ → Option Value
first_in program (ClassObject class) slot = constant_in program class true slot
first_in program (Made kind) slot = slots_of program kind slot

abbrev pub has_slot : Program → Option ObjectKind → ℕ → Bool
has_slot program kind slot = option_map_or (λ k. is_some (first_in program k slot)) kind false

-- the cell belongs to an object that was made, and is one of that object's
abbrev pub has_cell : Program → World → Cell → Bool
has_cell program world cell = has_slot program (kind_of world cell.obj) cell.slot
