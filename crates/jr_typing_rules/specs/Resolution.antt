-- The names of a program: its classes, and their members, where the names of all classes are known. The first rule
-- that is broken in source order decides; that there is a main comes last.
use Rattle.std.specs.Prelude.{ℕ, ◌+◌, ◌==◌, Bool, true, false, not, ◌&&◌, ◌||◌, List, [], ◌∷◌, ◌++◌, length, Option, Some, None, is_none, codes}
use Rattle.std.specs.Bool.{beq}
use Rattle.std.specs.List.{count_by}
use Rattle.std.specs.Option.{option_map_or}
use Rattle.std.specs.Str.{bytes_eq}
use Rattle.jr_base.specs.declared.number.ClassId.{ClassId}
use Rattle.jr_base.specs.declared.number.MethodId.{MethodId}
use Rattle.jr_base.specs.declared.refusal.Refusal.TheVariants.{Duplicate, NoMain}
use Rattle.jr_ast.specs.declared.name.Name.{Name}
use Rattle.jr_ast.specs.declared.name.ElementType.{ElementType}
use Rattle.jr_ast.specs.declared.name.ElementType.TheVariants as element_name
use Rattle.jr_ast.specs.declared.name.TypeName.{TypeName}
use Rattle.jr_ast.specs.declared.name.TypeName.TheVariants as written
use Rattle.jr_ast.specs.declared.unit.Field.{Field}
use Rattle.jr_ast.specs.declared.unit.FieldDeclarator.{FieldDeclarator}
use Rattle.jr_ast.specs.declared.unit.Formal.{Formal}
use Rattle.jr_ast.specs.declared.unit.MethodKind.{MethodKind}
use Rattle.jr_ast.specs.declared.unit.MethodKind.TheVariants as kinds
use Rattle.jr_ast.specs.Units.{Member, Empty, OfField, OfMethod, OfClause}
use Rattle.jr_ast.specs.Units as unit
use Rattle.jr_typing_rules.specs.declared.words.ValueType.{ValueType}
use Rattle.jr_typing_rules.specs.declared.words.FieldEntry.{FieldEntry}
use Rattle.jr_typing_rules.specs.declared.words.MethodEntry.{MethodEntry}
use Rattle.jr_typing_rules.specs.Answers.{Typing, Good, ◌>>=◌, require, found, one_by_one}
use Rattle.jr_typing_rules.specs.Names.{Text, Names, Class, named}
use Rattle.jr_typing_rules.specs.Exceptions.{is_reserved}
use Rattle.jr_typing_rules.specs.Modifiers.{has, is_static_kind}
use Rattle.jr_typing_rules.specs.Statements.{type_of}

-- one more name in a table: the later of two is refused
unfoldable pub and_entry : {A : Type 0} → List (Text × A) → Name → A → Typing (List (Text × A))
and_entry table x entry = require (is_none (named x.text table)) (Duplicate x.place) >>= λ u. Good (table ++ (x.text, entry) ∷ [])

-- ---- the classes, which count from 0

abbrev pub numbered : ℕ → List unit.Class → List (Text × ClassId)
numbered n [] = []
numbered n (k ∷ ks) = (k.name.text, record { 0 = n }) ∷ numbered (n + 1) ks

abbrev pub is_number : ℕ → ClassId → Bool
is_number n c = c.0 == n

-- the first class of a name has it alone
abbrev pub has_own_name : List (Text × ClassId) → ℕ → Name → Bool
has_own_name numbers n x = not (is_reserved x.text) && option_map_or (is_number n) (named x.text numbers) false

-- ---- main: the first method that is `static void main` with one formal of type `String[]`

abbrev pub is_string : ElementType → Bool
is_string (element_name.Class x) = bytes_eq x.text (codes "String")
is_string _ = false

abbrev pub is_strings : TypeName → Bool
is_strings (written.ArrayOf t) = is_string t
is_strings _ = false

abbrev pub is_void : MethodKind → Bool
is_void kinds.Void = true
is_void _ = false

abbrev pub takes_strings : List Formal → Bool
takes_strings (f ∷ []) = is_strings f.type_name
takes_strings _ = false

unfoldable pub looks_like_main : unit.Method → Bool
looks_like_main m = (bytes_eq m.name.text (codes "main") && is_void m.kind) && (has is_static_kind m.modifiers && takes_strings m.formals)

-- ---- what is known so far of a class, and of the program before it

pub record Known : Type 0 where
  pub own : ClassId
  pub class : Class
  -- the numbers of the program's next field and method
  pub fields : ℕ
  pub methods : ℕ
  pub main : Option MethodId

-- ---- fields

-- how many fields of a class are static, or are not
abbrev pub count_fields : Bool → List (Text × FieldEntry) → ℕ
count_fields static table = count_by (λ (e : Text × FieldEntry). beq e.1.is_static static) table

abbrev pub field_entry : Known → Bool → ValueType → FieldEntry
field_entry known static t =
    record { number = record { 0 = known.fields }; class = known.own; is_static = static; slot = count_fields static known.class.fields; of = t }

abbrev pub and_field : Bool → ValueType → Known → FieldDeclarator → Typing Known
and_field static t known d =
    and_entry known.class.fields d.name (field_entry known static t) >>= λ table.
    Good (record known { class = record known.class { fields = table }; fields = known.fields + 1 })

-- fields of one type: the type is known before their names
abbrev pub and_fields : Names → Known → Field → Typing Known
and_fields names known f = type_of names f.type_name >>= λ t. one_by_one (and_field (has is_static_kind f.modifiers) t) known f.declarators

-- ---- methods and constructors

-- no method has the name of one that each object has, nor in a thread that of one that each thread has
unfoldable pub is_library_method : Bool → Text → Bool
is_library_method is_thread x =
    (bytes_eq x (codes "wait") || (bytes_eq x (codes "notify") || bytes_eq x (codes "notifyAll"))) ||
    (is_thread && (bytes_eq x (codes "start") || bytes_eq x (codes "join")))

abbrev pub result_type : Names → MethodKind → Typing (Option ValueType)
result_type names (kinds.Valued t) = type_of names t >>= λ t. Good (Some t)
result_type names _ = Good None

-- formals have distinct names, behind those that stand before them
abbrev pub distinct_formals : List (Text × Unit {0}) → List Formal → Names → Typing (List ValueType)
distinct_formals before [] names = Good []
distinct_formals before (f ∷ fs) names =
    type_of names f.type_name >>= λ t. and_entry before f.name tt >>= λ before. distinct_formals before fs names >>= λ ts. Good (t ∷ ts)

-- the formal of main has no type that a value has
abbrev pub formal_types : Names → Bool → List Formal → Typing (List ValueType)
formal_types names true fs = Good []
formal_types names false fs = distinct_formals [] fs names

abbrev pub is_first_main : Known → unit.Method → Bool
is_first_main known m = is_none known.main && looks_like_main m

abbrev pub main_after : Known → Bool → Option MethodId
main_after known true = Some (record { 0 = known.methods })
main_after known false = known.main

abbrev pub entry : Known → unit.Method → Bool → Option ValueType → List ValueType → MethodEntry
entry known m is_main result formals =
    record { number = record { 0 = known.methods }; is_static = has is_static_kind m.modifiers; is_main = is_main; result = result; formals = formals }

abbrev pub with_class : Known → Class → Bool → Known
with_class known class is_main = record known { class = class; methods = known.methods + 1; main = main_after known is_main }

-- there is at most one constructor
abbrev pub and_constructor : Names → Known → unit.Method → Typing Known
and_constructor names known m =
    require (is_none known.class.constructor) (Duplicate m.name.place) >>= λ u.
    formal_types names false m.formals >>= λ formals.
    Good (with_class known (record known.class { constructor = Some (record (entry known m false None formals) { is_static = false }) }) false)

abbrev pub and_named_method : Names → Known → unit.Method → Bool → Typing Known
and_named_method names known m is_main =
    result_type names m.kind >>= λ result.
    require (not (is_library_method known.class.extends_thread m.name.text)) (Duplicate m.name.place) >>= λ u.
    require (is_none (named m.name.text known.class.methods)) (Duplicate m.name.place) >>= λ u.
    formal_types names is_main m.formals >>= λ formals.
    Good (with_class known (record known.class { methods = known.class.methods ++ (m.name.text, entry known m is_main result formals) ∷ [] }) is_main)

abbrev pub and_method : Names → Known → unit.Method → MethodKind → Typing Known
and_method names known m kinds.Constructor = and_constructor names known m
and_method names known m _ = and_named_method names known m (is_first_main known m)

-- ---- classes

abbrev pub and_member : Names → Known → Member → Typing Known
and_member names known Empty = Good known
and_member names known (OfField f) = and_fields names known f
and_member names known (OfMethod m) = and_method names known m m.kind
and_member names known (OfClause c) = Good known

-- what is known of the classes so far
pub record Resolved : Type 0 where
  pub classes : List Class
  pub fields : ℕ
  pub methods : ℕ
  pub main : Option MethodId

abbrev pub first_known : Resolved → unit.Class → Known
first_known so_far k = record {
  own = record { 0 = length so_far.classes };
  class = record { extends_thread = k.extends_thread; implements_runnable = k.implements_runnable; fields = []; methods = []; constructor = None };
  fields = so_far.fields;
  methods = so_far.methods;
  main = so_far.main;
}

abbrev pub and_class : List (Text × ClassId) → Resolved → unit.Class → Typing Resolved
and_class numbers so_far k =
    require (has_own_name numbers (length so_far.classes) k.name) (Duplicate k.name.place) >>= λ u.
    one_by_one (and_member (record { numbers = numbers; classes = [] })) (first_known so_far k) k.members >>= λ known.
    Good (record { classes = so_far.classes ++ known.class ∷ []; fields = known.fields; methods = known.methods; main = known.main })

-- the names of a program, and which of its methods is main
pub record Resolution : Type 0 where
  pub names : Names
  pub main : MethodId

unfoldable pub resolve : List unit.Class → Typing Resolution
resolve ks =
    one_by_one (and_class (numbered 0 ks)) (record { classes = []; fields = 0; methods = 0; main = None }) ks >>= λ (all : Resolved).
    found all.main NoMain >>= λ (main : MethodId).
    Good (record { names = record { numbers = numbered 0 ks; classes = all.classes }; main = main })
