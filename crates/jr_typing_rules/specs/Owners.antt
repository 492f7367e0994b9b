-- What a clause belongs to, without what it states.
use Rattle.std.specs.Prelude.{◌≡◌, Bool, true, Some}
use Rattle.jr_program.specs.declared.words.ClauseKind.{ClauseKind}
use Rattle.jr_program.specs.declared.words.ClauseKind.TheVariants as kinds
use Rattle.jr_program.specs.ClauseKinds.{IsClass}
use Rattle.jr_program.specs.Clauses.{Owner, OfMethod, OfClass, OfField}
use Rattle.jr_program.specs.Programs.{Program, Field, Method, field_at, method_at}
use Rattle.jr_program.specs.WellFormed.{is_of_class, is_of_method}

-- A clause of that kind may belong to it: it is in the program, and of the sort that the kind asks. A clause of a static
-- method or field is static, and one of another method or field isn't.
abbrev pub MayOwn : Program → ClauseKind → (is_static : Bool) → Owner → Type 0
MayOwn program kind static (OfMethod m) = (method : Method) × (method_at program m ≡ Some method) × (is_of_method kind ≡ true) × (static ≡ method.is_static)
MayOwn program kind static (OfClass c) = IsClass program c × (is_of_class kind ≡ true)
MayOwn program kind static (OfField f) = (field : Field) × (field_at program f ≡ Some field) × (kind ≡ kinds.MonitorsFor) × (static ≡ field.is_static)
