-- What may be named at a place.
use Rattle.std.specs.Prelude.{Bool, List, Option, find}
use Rattle.std.specs.Str.{bytes_eq}
use Rattle.jr_base.specs.declared.number.ClassId.{ClassId}
use Rattle.jr_typing_rules.specs.declared.words.FieldEntry.{FieldEntry}
use Rattle.jr_typing_rules.specs.declared.words.MethodEntry.{MethodEntry}
use Rattle.jr_typing_rules.specs.declared.words.VariableKind.{VariableKind}
use Rattle.jr_typing_rules.specs.Names.{Text, Names, field_in, method_in}

-- a variable in scope
pub record Variable : Type 0 where
  pub name : Text
  pub kind : VariableKind

pub record Scope : Type 0 where
  pub names : Names
  -- the class in which the place is
  pub own : ClassId
  -- there is no `this`
  pub is_static : Bool
  -- from the first that was declared to the last
  pub variables : List Variable

-- a variable, whose name no other one in scope has
unfoldable pub variable_named : Scope → Text → Option Variable
variable_named scope x = find (λ (v : Variable). bytes_eq x v.name) scope.variables

abbrev pub own_field : Scope → Text → Option FieldEntry
own_field scope x = field_in scope.names scope.own x

abbrev pub own_method : Scope → Text → Option MethodEntry
own_method scope x = method_in scope.names scope.own x
