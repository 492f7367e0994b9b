-- Objects and their cells, as values and numbers name them.
use Rattle.std.specs.Option.{option_map_or}
use Rattle.jr_base.specs.declared.number.FieldId.{FieldId}
use Rattle.jr_base.specs.declared.number.ObjId.{ObjId}
pub use Rattle.jr_base.specs.Threads.{reference, cell}
use Rattle.jr_base.specs.Threads.{class_object}
use Rattle.jr_program.specs.Programs.{Program, Field, field_at}

-- the class object on which a static field lies
abbrev pub home_of : Program → FieldId → ObjId
home_of program f = option_map_or (λ (field : Field). class_object field.class) (field_at program f) (record { 0 = 0 })
