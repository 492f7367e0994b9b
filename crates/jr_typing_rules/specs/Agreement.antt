-- What the names of a source stand for in its program: each entry of a class's tables is the field, the method or the
-- constructor of its number, a field's lies in its slot, and its types speak of classes of the program.
use Rattle.std.specs.Prelude.{◌≡◌, Bool, true, false, length, map, Option, Some, None}
use Rattle.std.specs.Option.{option_map}
use Rattle.jr_base.specs.declared.number.ClassId.{ClassId}
use Rattle.jr_program.specs.ClauseKinds.{IsClass}
use Rattle.jr_program.specs.Programs.{Program, Field, Method, field_at, method_at, constructor_of}
use Rattle.jr_program.specs.Slots.{slot_of}
use Rattle.jr_program.specs.WellFormed.{ElementNamed}
use Rattle.jr_typing_rules.specs.declared.words.ValueType.{ValueType}
use Rattle.jr_typing_rules.specs.declared.words.ValueType.TheVariants as type
use Rattle.jr_typing_rules.specs.declared.words.FieldEntry.{FieldEntry}
use Rattle.jr_typing_rules.specs.declared.words.MethodEntry.{MethodEntry}
use Rattle.jr_typing_rules.specs.Types.{kind_of}
use Rattle.jr_typing_rules.specs.Names.{Text, Names, Class, named, class_at, field_in, method_in}

-- the field is what its entry in that class says
pub record IsFieldOf (own : ClassId) (entry : FieldEntry) (field : Field) : Type 0 where
  pub declared_in : entry.class ≡ own
  pub class : field.class ≡ own
  pub static : field.is_static ≡ entry.is_static
  pub kind : field.kind ≡ kind_of entry.of

abbrev pub HasField : Program → ClassId → FieldEntry → Type 0
HasField program own entry = (field : Field) × (field_at program entry.number ≡ Some field) × IsFieldOf own entry field

-- the method or constructor is what its entry in that class says
pub record IsMethodOf (own : ClassId) (constructs : Bool) (entry : MethodEntry) (method : Method) : Type 0 where
  pub class : method.class ≡ own
  pub constructor : method.is_constructor ≡ constructs
  pub static : method.is_static ≡ entry.is_static
  pub formals : method.formals ≡ map kind_of entry.formals
  pub result : method.result ≡ option_map kind_of entry.result

abbrev pub HasMethod : Program → ClassId → Bool → MethodEntry → Type 0
HasMethod program own constructs entry = (method : Method) × (method_at program entry.number ≡ Some method) × IsMethodOf own constructs entry method

-- the class's constructor, or none
abbrev pub HasConstructor : Program → ClassId → Option MethodEntry → Type 0
HasConstructor program own None = constructor_of program own ≡ None
HasConstructor program own (Some entry) = (constructor_of program own ≡ Some entry.number) × HasMethod program own true entry

-- each class that the type speaks of is one of the program
abbrev pub IsTypeIn : Program → ValueType → Type 0
IsTypeIn program type.Null = Unit {0}
IsTypeIn program (type.Single e) = ElementNamed program e
IsTypeIn program (type.ArrayOf e) = ElementNamed program e

pub record AgreesWith (names : Names) (program : Program) : Type 0 where
  pub count : length names.classes ≡ length program.classes
  pub classes : (x : Text) (c : ClassId) → named x names.numbers ≡ Some c → IsClass program c
  pub fields : (c : ClassId) (x : Text) (entry : FieldEntry) → field_in names c x ≡ Some entry → HasField program c entry
  pub methods : (c : ClassId) (x : Text) (entry : MethodEntry) → method_in names c x ≡ Some entry → HasMethod program c false entry
  pub constructors : (c : ClassId) (class : Class) → class_at names c ≡ Some class → HasConstructor program c class.constructor
  pub slots : (c : ClassId) (x : Text) (entry : FieldEntry) → field_in names c x ≡ Some entry → entry.slot ≡ slot_of program entry.number
  pub field_types : (c : ClassId) (x : Text) (entry : FieldEntry) → field_in names c x ≡ Some entry → IsTypeIn program entry.of
  pub result_types : (c : ClassId) (x : Text) (entry : MethodEntry) (t : ValueType) → method_in names c x ≡ Some entry → entry.result ≡ Some t → IsTypeIn program t
