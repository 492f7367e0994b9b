-- The rules of code, class by class in source order: fields with their constants, and bodies.
use Rattle.std.specs.Prelude.{ℕ, ℤ, ◌+◌, ◌==◌, pos, Bool, true, false, cond, not, ◌&&◌, ◌||◌, List, [], ◌∷◌, ◌++◌, length, Option, Some, None, is_some, slice_get, codes, map}
use Rattle.std.specs.Str.{bytes_eq}
use Rattle.jr_base.specs.declared.number.Span.{Span}
use Rattle.jr_base.specs.declared.number.ClassId.{ClassId}
use Rattle.jr_base.specs.declared.number.FieldId.{FieldId}
use Rattle.jr_base.specs.declared.number.MethodId.{MethodId}
use Rattle.jr_base.specs.declared.value.Value.{Value}
use Rattle.jr_base.specs.declared.value.Value.TheVariants as values
use Rattle.jr_base.specs.declared.refusal.Refusal.TheVariants.{Mismatch, MissingReturn, TooManyLocals}
use Rattle.jr_base.specs.declared.kind.SlotKind.{SlotKind}
use Rattle.jr_base.specs.declared.kind.SlotKind.TheVariants as kind
use Rattle.jr_program.specs.Programs.{Statement}
use Rattle.jr_program.specs.WellFormed.{most_formals}
use Rattle.jr_ast.specs.declared.name.Name.{Name}
use Rattle.jr_ast.specs.declared.unit.Modifier.{Modifier}
use Rattle.jr_ast.specs.declared.unit.Field.{Field}
use Rattle.jr_ast.specs.declared.unit.FieldDeclarator.{FieldDeclarator}
use Rattle.jr_ast.specs.declared.unit.Formal.{Formal}
use Rattle.jr_ast.specs.declared.unit.Constant.{Constant}
use Rattle.jr_ast.specs.declared.unit.ConstantValue.{ConstantValue}
use Rattle.jr_ast.specs.declared.unit.ConstantValue.TheVariants as constants
use Rattle.jr_ast.specs.declared.unit.MethodKind.{MethodKind}
use Rattle.jr_ast.specs.declared.unit.MethodKind.TheVariants as method_kinds
use Rattle.jr_ast.specs.Clauses.{MethodClause, ClassClause, Assignable, Modifies}
use Rattle.jr_ast.specs.Units.{Member, Empty, OfField, OfMethod, OfClause}
use Rattle.jr_ast.specs.Units as unit
use Rattle.jr_typing_rules.specs.declared.words.ValueType.{ValueType}
use Rattle.jr_typing_rules.specs.declared.words.ValueType.TheVariants as type
use Rattle.jr_typing_rules.specs.declared.words.VariableKind.TheVariants as variable
use Rattle.jr_typing_rules.specs.Answers.{Typing, Good, Bad, ◌>>=◌, require, one_by_one}
use Rattle.jr_typing_rules.specs.Types.{number, boolean, kind_of}
use Rattle.jr_typing_rules.specs.Names.{Names, method_in, is_assignable}
use Rattle.jr_typing_rules.specs.Operators.{Literal, literal, negated_literal}
use Rattle.jr_typing_rules.specs.Scopes.{Variable}
use Rattle.jr_typing_rules.specs.Modifiers.{has, places_of, is_static_kind, is_synchronized_kind, is_volatile_kind, is_atomic_kind}
use Rattle.jr_typing_rules.specs.Statements.{Frame, State, Mades, Asserted, type_of, starts, all_typed, chained}
use Rattle.jr_typing_rules.specs.Ends.{last_ends}
use Rattle.jr_typing_rules.specs.Resolution.{Resolution, is_void, result_type, formal_types}

-- ---- what is made of a class

pub record MadeField : Type 0 where
  pub name : Name
  pub number : FieldId
  pub class : ClassId
  pub is_static : Bool
  pub is_volatile : Bool
  pub of : ValueType
  pub constant : Value

pub record MadeMethod : Type 0 where
  pub source : unit.Method
  pub number : MethodId
  pub class : ClassId
  pub is_static : Bool
  pub is_constructor : Bool
  pub result : Option ValueType
  -- its formals as variables, and their kinds
  pub formals : List Variable
  pub formal_kinds : List SlotKind
  -- the kinds of all its variables, its formals first
  pub kinds : List SlotKind
  pub has_commit : Bool
  pub body : Statement
  pub asserts : List Asserted

-- a member of a class in source order
pub data MadeMember : Type 0 where
  Fields : (modifiers : List Modifier) (fields : List MadeField) → MadeMember
  Method : (m : MadeMethod) → MadeMember
  Clause : (c : ClassClause) → MadeMember

pub record MadeClass : Type 0 where
  pub source : unit.Class
  pub number : ClassId
  pub members : List MadeMember

-- ---- counts

-- how many fields, methods and clauses stand before a place of the program, and which texts
pub record Counts : Type 0 where
  pub fields : ℕ
  pub methods : ℕ
  pub clauses : ℕ
  pub texts : List (List ℕ)

-- members that were made, and what stands before the next one
pub record Coded : Type 0 where
  pub counts : Counts
  pub members : List MadeMember

-- ---- constants of fields (JLS 15.28)

-- a constant: its type, and its value where a value of that kind is asked for
pub record ConstantOf : Type 0 where
  pub of : ValueType
  pub value : SlotKind → Value

abbrev pub number_value : ℤ → SlotKind → Value
number_value n kind.Long = values.Long n
number_value n _ = values.Int n

abbrev pub number_constant : Literal → Typing ConstantOf
number_constant n = Good (record { of = number n.width; value = number_value n.value })

abbrev pub constant_of : Span → ConstantValue → Typing ConstantOf
constant_of at constants.Null = Good (record { of = type.Null; value = λ k. values.Null })
constant_of at (constants.Boolean b) = Good (record { of = boolean; value = λ k. values.Bool b })
constant_of at (constants.Integer n) = literal at n >>= number_constant
constant_of at (constants.Negated n) = negated_literal at n >>= number_constant

-- the value of a field without a constant (JLS 4.12.5)
abbrev pub default_value : SlotKind → Value
default_value kind.Int = values.Int (pos 0)
default_value kind.Long = values.Long (pos 0)
default_value kind.Bool = values.Bool false
default_value _ = values.Null

abbrev pub initial_constant : Names → ValueType → Option Constant → Typing Value
initial_constant names t (Some c) =
    constant_of c.place c.value >>= λ (v : ConstantOf).
    require (is_assignable names v.of t) (Mismatch c.place) >>= λ u. Good (v.value (kind_of t))
initial_constant names t None = Good (default_value (kind_of t))

-- ---- fields

abbrev pub with_field : Counts → Counts
with_field counts = record counts { fields = counts.fields + 1 }

-- fields so far, and what stands before the next one
pub record FieldsMade : Type 0 where
  pub counts : Counts
  pub made : List MadeField

abbrev pub makes_field : Names → ClassId → Bool → Bool → ValueType → FieldsMade → FieldDeclarator → Typing FieldsMade
makes_field names own static volatile t before d =
    initial_constant names t d.constant >>= λ c.
    Good (record {
      counts = with_field before.counts;
      made = before.made ++ record {
        name = d.name;
        number = record { 0 = before.counts.fields };
        class = own;
        is_static = static;
        is_volatile = volatile;
        of = t;
        constant = c;
      } ∷ [];
    })

abbrev pub makes_fields : Names → ClassId → Counts → Field → Typing FieldsMade
makes_fields names own counts f =
    type_of names f.type_name >>= λ t.
    one_by_one (makes_field names own (has is_static_kind f.modifiers) (has is_volatile_kind f.modifiers) t) (record { counts = counts; made = [] }) f.declarators

-- ---- methods and constructors

-- which clauses are judged
abbrev pub is_judged : MethodClause → Bool
is_judged (Assignable at) = false
is_judged (Modifies at) = false
is_judged _ = true

abbrev pub count_judged : List MethodClause → ℕ
count_judged [] = 0
count_judged (c ∷ cs) = cond (is_judged c) (count_judged cs + 1) (count_judged cs)

-- the clauses of a method that stand before its body: those before its modifiers, and each `atomic`
abbrev pub clauses_before_body : unit.Method → ℕ
clauses_before_body m = count_judged m.clauses + length (places_of is_atomic_kind m.modifiers)

abbrev pub is_constructor : MethodKind → Bool
is_constructor method_kinds.Constructor = true
is_constructor _ = false

-- a constructor has its class's name, and is neither static nor synchronized
abbrev pub is_right_constructor : unit.Class → unit.Method → Bool
is_right_constructor k m = bytes_eq m.name.text k.name.text && not (has is_static_kind m.modifiers || has is_synchronized_kind m.modifiers)

abbrev pub is_empty : {A : Type 0} → List A → Bool
is_empty [] = true
is_empty (x ∷ xs) = false

-- `run` of a thread or of what it runs is an instance method without formals and result
abbrev pub is_right_run : unit.Method → Bool
is_right_run m = is_void m.kind && (is_empty m.formals && not (has is_static_kind m.modifiers))

abbrev pub is_run : unit.Class → unit.Method → Bool
is_run k m = bytes_eq m.name.text (codes "run") && (k.extends_thread || k.implements_runnable)

abbrev pub right_declaration : unit.Class → unit.Method → MethodKind → Bool
right_declaration k m method_kinds.Constructor = is_right_constructor k m
right_declaration k m _ = not (is_run k m) || is_right_run m

-- a method with a result has a body that ends
abbrev pub ends_if_asked : unit.Method → MethodKind → Bool
ends_if_asked m (method_kinds.Valued t) = last_ends false m.body
ends_if_asked m _ = true

-- there are at most 16 formals
abbrev pub few_formals : Option Formal → Typing (Unit {0})
few_formals (Some f) = Bad (TooManyLocals f.name.place)
few_formals None = Good tt

-- formals as variables, from a place on; that of main has no type
abbrev pub formal_variables : ℕ → List Formal → List ValueType → List Variable
formal_variables place [] ts = []
formal_variables place (f ∷ fs) [] = record { name = f.name.text; kind = variable.Arguments } ∷ formal_variables (place + 1) fs []
formal_variables place (f ∷ fs) (t ∷ ts) = record { name = f.name.text; kind = variable.Local t place } ∷ formal_variables (place + 1) fs ts

abbrev pub first_state : unit.Method → List ValueType → State
first_state m ts = record { variables = formal_variables 0 m.formals ts; kinds = map kind_of ts; has_commit = false; asserts = []; texts = [] }

abbrev pub frame_of : Names → ClassId → Counts → unit.Method → Option ValueType → Frame
frame_of names own counts m result = record {
  names = names;
  own = own;
  is_static = has is_static_kind m.modifiers;
  result = result;
  clauses = counts.clauses + clauses_before_body m;
  texts = length counts.texts;
}

abbrev pub made_method : ClassId → Counts → unit.Method → Option ValueType → List ValueType → Mades → MadeMethod
made_method own counts m result formals made = record {
  source = m;
  number = record { 0 = counts.methods };
  class = own;
  is_static = has is_static_kind m.modifiers;
  is_constructor = is_constructor m.kind;
  result = result;
  formals = formal_variables 0 m.formals formals;
  formal_kinds = map kind_of formals;
  kinds = made.state.kinds;
  has_commit = made.state.has_commit;
  body = chained made.statements;
  asserts = made.state.asserts;
}

abbrev pub with_method : Counts → unit.Method → State → Counts
with_method counts m state = record counts {
  methods = counts.methods + 1;
  clauses = counts.clauses + clauses_before_body m + length state.asserts;
  texts = counts.texts ++ state.texts;
}

-- what its declaration says, then its body
abbrev pub makes_method : Resolution → unit.Class → ClassId → Coded → unit.Method → Typing Coded
makes_method program k own before m =
    require (right_declaration k m m.kind) (Mismatch m.place) >>= λ u.
    require (ends_if_asked m m.kind) (MissingReturn m.name.place) >>= λ u.
    few_formals (slice_get m.formals most_formals) >>= λ u.
    result_type program.names m.kind >>= λ result.
    formal_types program.names (program.main.0 == before.counts.methods) m.formals >>= λ formals.
    all_typed (frame_of program.names own before.counts m result) false (starts (first_state m formals)) m.body >>= λ made.
    Good (record {
      counts = with_method before.counts m made.state;
      members = before.members ++ Method (made_method own before.counts m result formals made) ∷ [];
    })

-- ---- classes

abbrev pub makes_member : Resolution → unit.Class → ClassId → Coded → Member → Typing Coded
makes_member program k own before Empty = Good before
makes_member program k own before (OfField f) =
    makes_fields program.names own before.counts f >>= λ fields.
    Good (record { counts = fields.counts; members = before.members ++ Fields f.modifiers fields.made ∷ [] })
makes_member program k own before (OfMethod m) = makes_method program k own before m
makes_member program k own before (OfClause c) =
    Good (record { counts = record before.counts { clauses = before.counts.clauses + 1 }; members = before.members ++ Clause c ∷ [] })

-- a class that implements Runnable declares `run`
abbrev pub declares_run : Names → ClassId → unit.Class → Bool
declares_run names own k = not k.implements_runnable || is_some (method_in names own (codes "run"))

-- classes that were made, and what stands before the next one
pub record ClassesMade : Type 0 where
  pub counts : Counts
  pub made : List MadeClass

abbrev pub makes_class : Resolution → ClassesMade → unit.Class → Typing ClassesMade
makes_class program before k =
    require (declares_run program.names (record { 0 = length before.made }) k) (Mismatch k.place) >>= λ u.
    one_by_one (makes_member program k (record { 0 = length before.made })) (record { counts = before.counts; members = [] }) k.members >>= λ coded.
    Good (record { counts = coded.counts; made = before.made ++ record { source = k; number = record { 0 = length before.made }; members = coded.members } ∷ [] })

abbrev pub no_counts : Counts
no_counts = record { fields = 0; methods = 0; clauses = 0; texts = [] }

unfoldable pub code : Resolution → List unit.Class → Typing ClassesMade
code program ks = one_by_one (makes_class program) (record { counts = no_counts; made = [] }) ks
