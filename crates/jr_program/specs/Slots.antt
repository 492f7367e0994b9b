-- Where the fields of a program's classes lie: a static field on its class object, another one on each object of
-- its class (JLS 8.3.1.1, 12.5). A field's slot is its place there, in source order.
use Rattle.std.specs.Prelude.{◌==◌, ◌&&◌, ◌+◌, ℕ, Bool, cond, List, [], ◌∷◌, Option, length, take, slice_get, option_and_then}
use Rattle.std.specs.Bool.{beq}
use Rattle.std.specs.Option.{option_map, option_map_or}
use Rattle.std.specs.List.{count_by}
use Rattle.jr_base.specs.declared.number.ClassId.{ClassId}
use Rattle.jr_base.specs.declared.number.FieldId.{FieldId}
use Rattle.jr_base.specs.declared.value.Value.{Value}
use Rattle.jr_program.specs.Programs.{Program, Field, field_at}

-- the field is one of that class's static fields, or of its other fields
abbrev pub is_of : ClassId → Bool → Field → Bool
is_of class is_static field = (field.class.0 == class.0) && beq field.is_static is_static

-- a field's slot: how many fields before it lie there too
abbrev pub slot_of : Program → FieldId → ℕ
slot_of program f = option_map_or (λ (field : Field). count_by (is_of field.class field.is_static) (take f.0 program.fields)) (field_at program f) 0

-- those of a class, from number n on
abbrev pub fields_from : ClassId → Bool → ℕ → List Field → List FieldId
fields_from class is_static n [] = []
fields_from class is_static n (field ∷ fields) =
    cond (is_of class is_static field) (record { 0 = n } ∷ fields_from class is_static (n + 1) fields) (fields_from class is_static (n + 1) fields)

-- the static fields of a class, or its other fields, by slot
abbrev pub fields_of : Program → ClassId → Bool → List FieldId
fields_of program class is_static = fields_from class is_static 0 program.fields

-- the field in that slot
abbrev pub field_in : Program → ClassId → Bool → ℕ → Option FieldId
field_in program class is_static slot = slice_get (fields_of program class is_static) slot

-- what the field in that slot holds at first
abbrev pub constant_in : Program → ClassId → Bool → ℕ → Option Value
constant_in program class is_static slot =
    option_and_then (λ f. option_map (λ (field : Field). field.constant) (field_at program f)) (field_in program class is_static slot)

-- how many static fields, or other fields, a class has
abbrev pub field_count : Program → ClassId → Bool → ℕ
field_count program class is_static = length (fields_of program class is_static)

abbrev pub class_count : Program → ℕ
class_count program = length program.classes
