-- What the classes of a program declare, by name and by number.
use Rattle.std.specs.Prelude.{ℕ, Bool, true, false, ◌&&◌, ◌||◌, List, Option, Some, None, slice_get}
use Rattle.std.specs.Option.{option_map_or}
use Rattle.std.specs.Map.{lookup}
use Rattle.std.specs.Str.{bytes_eq}
use Rattle.jr_base.specs.declared.number.ClassId.{ClassId}
use Rattle.jr_base.specs.declared.action.Elem.TheVariants as elem
use Rattle.jr_typing_rules.specs.declared.words.ValueType.{ValueType}
use Rattle.jr_typing_rules.specs.declared.words.ValueType.TheVariants.{Null, Single}
use Rattle.jr_typing_rules.specs.declared.words.FieldEntry.{FieldEntry}
use Rattle.jr_typing_rules.specs.declared.words.MethodEntry.{MethodEntry}
use Rattle.jr_typing_rules.specs.Types.{is_same, is_reference}

-- how a name is spelled: its bytes
abbrev pub Text : Type 0
Text = List ℕ

-- a class: what it extends and implements, and its members by name
pub record Class : Type 0 where
  pub extends_thread : Bool
  pub implements_runnable : Bool
  pub fields : List (Text × FieldEntry)
  pub methods : List (Text × MethodEntry)
  pub constructor : Option MethodEntry

-- the numbers of the classes by name, and the classes by number
pub record Names : Type 0 where
  pub numbers : List (Text × ClassId)
  pub classes : List Class

-- what a name stands for in a table
unfoldable pub named : {A : Type 0} → Text → List (Text × A) → Option A
named x table = lookup (bytes_eq x) table

abbrev pub and_then : {A B : Type 0} → Option A → (A → Option B) → Option B
and_then (Some x) f = f x
and_then None f = None

unfoldable pub class_at : Names → ClassId → Option Class
class_at names c = slice_get names.classes c.0

unfoldable pub field_in : Names → ClassId → Text → Option FieldEntry
field_in names c x = and_then (class_at names c) (λ (k : Class). named x k.fields)

unfoldable pub method_in : Names → ClassId → Text → Option MethodEntry
method_in names c x = and_then (class_at names c) (λ (k : Class). named x k.methods)

-- ---- which values may stand for which (JLS 5.2)

unfoldable pub is_thread : Names → ValueType → Bool
is_thread names (Single elem.Thread) = true
is_thread names (Single (elem.Class c)) = option_map_or (λ (k : Class). k.extends_thread) (class_at names c) false
is_thread names _ = false

unfoldable pub is_runnable : Names → ValueType → Bool
is_runnable names (Single elem.Runnable) = true
is_runnable names (Single (elem.Class c)) = option_map_or (λ (k : Class). k.implements_runnable) (class_at names c) false
is_runnable names _ = false

-- each reference is an Object, what extends Thread a Thread, and what implements Runnable a Runnable
abbrev pub widens : Names → ValueType → ValueType → Bool
widens names from (Single elem.Object) = is_reference from
widens names from (Single elem.Thread) = is_thread names from
widens names from (Single elem.Runnable) = is_runnable names from
widens names from _ = false

abbrev pub is_null : ValueType → Bool
is_null Null = true
is_null _ = false

-- an int is a long where a long is asked for (JLS 5.1.2)
abbrev pub is_int_to_long : ValueType → ValueType → Bool
is_int_to_long (Single elem.Int) (Single elem.Long) = true
is_int_to_long _ _ = false

-- a value of the first type may stand where one of the second is asked for
unfoldable pub is_assignable : Names → ValueType → ValueType → Bool
is_assignable names from to = is_same from to || (is_int_to_long from to || (is_null from && is_reference to || widens names from to))
