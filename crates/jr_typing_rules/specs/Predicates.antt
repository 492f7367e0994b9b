-- Expressions of clauses (JML Reference Manual, "Predicates and Specification Expressions"): what each states, or
-- which rule it breaks, where the rules are applied from left to right.
use Rattle.std.specs.Prelude.{ℕ, ◌+◌, nat_lt, length, Bool, true, cond, not, ◌&&◌, List, [], ◌∷◌, Option, Some, None, is_none}
use Rattle.std.specs.Str.{bytes_eq}
use Rattle.jr_base.specs.declared.number.Span.{Span}
use Rattle.jr_base.specs.declared.number.ClassId.{ClassId}
use Rattle.jr_base.specs.declared.action.Elem.TheVariants as elem
use Rattle.jr_base.specs.declared.refusal.Refusal.TheVariants.{Duplicate, Unknown, Mismatch, NotHere, NotInProfile}
use Rattle.jr_arith.specs.declared.operator.Width.{Width}
use Rattle.jr_program.specs.declared.words.Quantifier.{Quantifier}
use Rattle.jr_program.specs.declared.words.Quantifier.TheVariants as quantifiers
use Rattle.jr_program.specs.declared.words.Bound.{Bound as BoundKind}
use Rattle.jr_program.specs.declared.words.Bound.TheVariants as bounds
use Rattle.jr_base.specs.Threads.{class_object, cell}
use Rattle.jr_base.specs.declared.value.Cell.{Cell}
use Rattle.jr_program.specs.ClauseKinds.{deepest_quantifier}
use Rattle.jr_program.specs.Clauses as clause
use Rattle.jr_program.specs.Clauses.{Spec}
use Rattle.jr_ast.specs.declared.name.Name.{Name}
use Rattle.jr_ast.specs.declared.operator.Prefix.{Prefix}
use Rattle.jr_ast.specs.declared.operator.Infix.{Infix}
use Rattle.jr_ast.specs.declared.expr.Bound.{Bound as SourceBound}
use Rattle.jr_ast.specs.declared.expr.Bound.TheVariants as source_bounds
use Rattle.jr_ast.specs.declared.expr.Quantifier.{Quantifier as SourceQuantifier}
use Rattle.jr_ast.specs.declared.expr.Quantifier.TheVariants as source_quantifiers
use Rattle.jr_ast.specs.Expressions as source
use Rattle.jr_ast.specs.Expressions.{place_of}
use Rattle.jr_typing_rules.specs.declared.words.ValueType.{ValueType}
use Rattle.jr_typing_rules.specs.declared.words.ValueType.TheVariants as type
use Rattle.jr_typing_rules.specs.declared.words.FieldEntry.{FieldEntry}
use Rattle.jr_typing_rules.specs.declared.words.Members.{Members}
use Rattle.jr_typing_rules.specs.declared.words.Members.TheVariants as members
use Rattle.jr_typing_rules.specs.declared.words.VariableKind.{VariableKind}
use Rattle.jr_typing_rules.specs.declared.words.VariableKind.TheVariants as variable
use Rattle.jr_typing_rules.specs.declared.words.Library.{Library}
use Rattle.jr_typing_rules.specs.declared.words.Face.{Face}
use Rattle.jr_typing_rules.specs.declared.words.Face.TheVariants as face
use Rattle.jr_typing_rules.specs.declared.words.Access.{Access}
use Rattle.jr_typing_rules.specs.declared.words.Access.TheVariants as access
use Rattle.jr_typing_rules.specs.declared.words.Joint.{Joint}
use Rattle.jr_typing_rules.specs.declared.words.Joint.TheVariants as joint
use Rattle.jr_typing_rules.specs.declared.words.Operation.{Operation}
use Rattle.jr_typing_rules.specs.declared.words.Single.{Single}
use Rattle.jr_typing_rules.specs.declared.words.Single.TheVariants.{Kept, Applied}
use Rattle.jr_typing_rules.specs.Answers.{Typing, Good, Bad, ◌>>=◌, require, found}
use Rattle.jr_typing_rules.specs.Types.{is_int, is_boolean, is_reference, members_of, width_to, number, int, boolean, object}
use Rattle.jr_typing_rules.specs.Names.{Text, named}
use Rattle.jr_typing_rules.specs.Scopes.{Scope, Variable, variable_named, own_field}
use Rattle.jr_typing_rules.specs.Denotations.{Denotation, AClass, ALibrary, ASystem, AnOut, AVariable, AValue, ANothing, of_class, field_access}
use Rattle.jr_typing_rules.specs.Operators.{Literal, literal, literal_under, step_of, operation, single, wider}

-- where an expression of a clause stands
pub record Stand : Type 0 where
  -- names, the own class, whether there is no `this`, and the variables, each by its place in the environment
  pub scope : Scope
  -- `\result` may stand here, and is of that type
  pub result : Option ValueType
  -- `\old` may stand here
  pub looks_back : Bool
  pub is_in_old : Bool
  -- the variables of the quantifiers around, from the innermost one
  pub quantified : List Text

pub data Term : Type 0 where
  TheClass : (c : ClassId) → Term
  TheLibrary : (l : Library) → Term
  TheSystem : (at : Span) → Term
  TheOut : (at : Span) → Term
  TheValue : (t : ValueType) (s : Spec) → Term

-- a value: its type and what states it
pub record Stated : Type 0 where
  pub of : ValueType
  pub node : Spec

abbrev pub face_of : Term → Face
face_of (TheClass c) = face.Class c
face_of (TheLibrary l) = face.Library l
face_of (TheSystem system) = face.System system
face_of (TheOut system) = face.Out system
face_of (TheValue t s) = face.Value t

-- a value is asked for, where the first token stands there
unfoldable pub stated : Span → Term → Typing Stated
stated at (TheValue t s) = Good (record { of = t; node = s })
stated at (TheClass c) = Bad (Unknown at)
stated at (TheLibrary l) = Bad (Unknown at)
stated at (TheSystem system) = Bad (Unknown system)
stated at (TheOut system) = Bad (Unknown system)

abbrev pub in_brackets : Span → Term → Typing Term
in_brackets at m = stated at m >>= λ v. Good (TheValue v.of v.node)

abbrev pub converted : Option Width → Spec → Spec
converted (Some w) s = clause.Convert w s
converted None s = s

-- a number, brought to the type that is asked for
abbrev pub brought : ValueType → ValueType → Spec → Spec
brought from to s = converted (width_to from to) s

-- ---- names

-- how many quantifiers stand between
abbrev pub depth_of : ℕ → List Text → Text → Option ℕ
depth_of n [] x = None
depth_of n (y ∷ ys) x = cond (bytes_eq x y) (Some n) (depth_of (n + 1) ys x)

abbrev pub of_variable : Name → VariableKind → Typing Term
of_variable x (variable.Local t place) = Good (TheValue t (clause.Variable place))
of_variable x (variable.Caught place) = Bad (Mismatch x.place)
of_variable x variable.Arguments = Bad (NotInProfile x.place)

-- where a static field lies (JLS 8.3.1.1)
abbrev pub cell_of : FieldEntry → Cell
cell_of f = cell (class_object f.class) f.slot

abbrev pub static_field : FieldEntry → Term
static_field f = TheValue f.of (clause.StaticField f.number (cell_of f))

abbrev pub field_of_object : Spec → FieldEntry → Term
field_of_object s f = TheValue f.of (clause.FieldOf s f.number f.slot)

-- an instance field alone stands in no static clause
abbrev pub of_own_field : Scope → Name → FieldEntry → Typing Term
of_own_field scope x f =
    cond f.is_static
    (Good (static_field f))
    (require (not scope.is_static) (NotHere x.place) >>= λ u. Good (field_of_object clause.This f))

-- what a name before a dot is, as in code
abbrev pub of_meaning : Span → Denotation → Typing Term
of_meaning at (AClass c) = Good (TheClass c)
of_meaning at (ALibrary l) = Good (TheLibrary l)
of_meaning at (ASystem system) = Good (TheSystem system)
of_meaning at (AnOut system) = Good (TheOut system)
of_meaning at (AVariable t v) = Bad (NotHere at)
of_meaning at (AValue t e) = Bad (NotHere at)
of_meaning at (ANothing s) = Bad (NotHere at)

abbrev pub of_field_or_class : Scope → Name → Option FieldEntry → Typing Term
of_field_or_class scope x (Some f) = of_own_field scope x f
of_field_or_class scope x None = of_class (named x.text scope.names.numbers) x >>= of_meaning x.place

abbrev pub of_any : Scope → Name → Option Variable → Typing Term
of_any scope x (Some v) = of_variable x v.kind
of_any scope x None = of_field_or_class scope x (own_field scope x.text)

abbrev pub of_quantified_or_any : Stand → Name → Option ℕ → Typing Term
of_quantified_or_any stand x (Some n) = Good (TheValue int (clause.Bound n))
of_quantified_or_any stand x None = of_any stand.scope x (variable_named stand.scope x.text)

-- a quantified variable or another one, else a field of the own class, else a class
unfoldable pub clause_name : Stand → Name → Typing Term
clause_name stand x = of_quantified_or_any stand x (depth_of 0 stand.quantified x.text)

-- the name of a quantified variable is no other variable's
abbrev pub is_new : Stand → Text → Bool
is_new stand x = is_none (depth_of 0 stand.quantified x) && is_none (variable_named stand.scope x)

abbrev pub and_quantified : Stand → Name → Stand
and_quantified stand x = record stand { quantified = x.text ∷ stand.quantified }

-- ---- primaries and suffixes

abbrev pub this : Stand → Span → Typing Term
this stand at = require (not stand.scope.is_static) (NotHere at) >>= λ u. Good (TheValue (type.Single (elem.Class stand.scope.own)) clause.This)

abbrev pub class_literal : Stand → Name → Typing Term
class_literal stand x = found (named x.text stand.scope.names.numbers) (Unknown x.place) >>= λ (c : ClassId). Good (TheValue object (clause.ClassObject c))

abbrev pub method_result : Stand → Span → Typing Term
method_result stand at =
    require (not stand.is_in_old) (NotHere at) >>= λ u.
    found stand.result (NotHere at) >>= λ (t : ValueType). Good (TheValue t clause.Result)

abbrev pub accessed : Span → Access → Term → Typing Term
accessed at (access.Static f) m = Good (static_field f)
accessed at (access.Out system) m = Good (TheOut system)
accessed at access.Length m = stated at m >>= λ v. Good (TheValue int (clause.LengthOf v.node))
accessed at (access.Field f) m = stated at m >>= λ v. Good (field_of_object v.node f)

abbrev pub field_of : Stand → Span → Name → Term → Typing Term
field_of stand at x m = field_access stand.scope at x (face_of m) >>= λ a. accessed at a m

abbrev pub element_of : Span → Members → Spec → Spec → Typing Term
element_of at (members.OfArray t) s i = Good (TheValue (type.Single t) (clause.ElementOf s i))
element_of at _ s i = Bad (Mismatch at)

abbrev pub element : Span → Stated → Stated → Typing Term
element at v i = element_of at (members_of v.of) v.node i.node

-- ---- what is asked for

abbrev pub as_int : Span → Stated → Typing Stated
as_int at v = require (is_int v.of) (Mismatch at) >>= λ u. Good v

abbrev pub as_boolean : Span → Stated → Typing Stated
as_boolean at v = require (is_boolean v.of) (Mismatch at) >>= λ u. Good v

abbrev pub as_reference : Span → Stated → Typing Stated
as_reference at v = require (is_reference v.of) (Mismatch at) >>= λ u. Good v

-- ---- operators

abbrev pub of_literal : Literal → Typing Term
of_literal n = Good (TheValue (number n.width) (clause.Number n.width n.value))

abbrev pub literal_or : Option (Typing Literal) → Typing Term → Typing Term
literal_or (Some n) other = n >>= of_literal
literal_or None other = other

abbrev pub applied : Single → Spec → Spec
applied Kept s = s
applied (Applied op) s = clause.Unary op s

-- what has an effect has no place in a clause
abbrev pub has_no_effect : Span → Prefix → Typing (Unit {0})
has_no_effect at op = require (is_none (step_of op)) (NotHere at)

abbrev pub prefixed : Span → Prefix → Stated → Typing Term
prefixed at op v = found (single op v.of) (Mismatch at) >>= λ (s : Single). Good (TheValue v.of (applied s v.node))

abbrev pub joined : Joint → Spec → Spec → Spec
joined (joint.Strict op) a b = clause.Binary op a b
joined joint.And a b = clause.And a b
joined joint.Or a b = clause.Or a b
joined joint.Implies a b = clause.Implies a b
joined joint.ImpliedBy a b = clause.ImpliedBy a b

abbrev pub infixed : Stand → Span → Infix → Stated → Stated → Typing Term
infixed stand at op a b =
    found (operation stand.scope.names op a.of b.of) (Mismatch at) >>= λ (o : Operation).
    Good (TheValue o.of (joined o.joint (brought a.of o.left a.node) (brought b.of o.right b.node)))

abbrev pub conditional : Stand → Span → Stated → Stated → Stated → Typing Term
conditional stand at c a b =
    found (wider stand.scope.names a.of b.of) (Mismatch at) >>= λ (t : ValueType).
    Good (TheValue t (clause.Choice c.node (brought a.of t a.node) (brought b.of t b.node)))

-- ---- quantifiers

abbrev pub quantifier : SourceQuantifier → Quantifier
quantifier source_quantifiers.ForAll = quantifiers.ForAll
quantifier source_quantifiers.Exists = quantifiers.Exists

abbrev pub bound : SourceBound → BoundKind
bound source_bounds.Exclusive = bounds.Exclusive
bound source_bounds.Inclusive = bounds.Inclusive

-- one more conjunct
abbrev pub conjoined : Option Spec → Spec → Spec
conjoined (Some before) s = clause.And before s
conjoined None s = s

abbrev pub all_conjoined : Option Spec → Spec
all_conjoined (Some s) = s
all_conjoined None = clause.Truth true

abbrev mutual
  pub states : Stand → source.Expr → Typing Term
  states stand (source.Null at) = Good (TheValue type.Null clause.Null)
  states stand (source.Boolean at b) = Good (TheValue boolean (clause.Truth b))
  states stand (source.Integer at n) = literal at n >>= of_literal
  states stand (source.This at) = this stand at
  states stand (source.SimpleName at x) = clause_name stand x
  states stand (source.ClassLiteral at x) = class_literal stand x
  states stand (source.Brackets at e) = states stand e >>= in_brackets (place_of e)
  states stand (source.FieldOf at e x) = states stand e >>= field_of stand at x
  states stand (source.ElementOf at e i) =
      states stand e >>= stated at >>= λ v. states stand i >>= stated (place_of i) >>= as_int (place_of i) >>= element at v
  states stand (source.Prefixed at op e) = has_no_effect at op >>= λ u. literal_or (literal_under op e) (states stand e >>= stated (place_of e) >>= prefixed at op)
  states stand (source.Infixed at op a b) =
      states stand a >>= stated (place_of a) >>= λ left. states stand b >>= stated (place_of b) >>= infixed stand at op left
  states stand (source.Conditional at c a b) =
      states stand c >>= stated (place_of c) >>= as_boolean (place_of c) >>= λ condition.
      states stand a >>= stated (place_of a) >>= λ one.
      states stand b >>= stated (place_of b) >>= conditional stand at condition one
  states stand (source.MethodResult at) = method_result stand at
  states stand (source.Old at e) =
      require (stand.looks_back && not stand.is_in_old) (NotHere at) >>= λ u.
      states (record stand { is_in_old = true }) e >>= stated (place_of e) >>= λ v. Good (TheValue v.of (clause.Old v.node))
  states stand (source.InLockset at e) =
      require (not stand.is_in_old) (NotHere at) >>= λ u.
      states stand e >>= stated (place_of e) >>= as_reference (place_of e) >>= λ v. Good (TheValue boolean (clause.InLockset v.node))
  states stand (source.Quantified at q x low low_bound high high_bound es e) =
      require (nat_lt (length stand.quantified) deepest_quantifier) (NotHere at) >>= λ u.
      require (is_new stand x.text) (Duplicate x.place) >>= λ u.
      states stand low >>= stated (place_of low) >>= as_int (place_of low) >>= λ l.
      states stand high >>= stated (place_of high) >>= as_int (place_of high) >>= λ h.
      conjuncts (and_quantified stand x) None es >>= λ range.
      states (and_quantified stand x) e >>= stated (place_of e) >>= as_boolean (place_of e) >>= λ body.
      Good (TheValue boolean (clause.Quantified (quantifier q) l.node (bound low_bound) h.node (bound high_bound) (all_conjoined range) body.node))
  -- forms of code alone
  states stand (source.Call at x es) = Bad (NotHere at)
  states stand (source.NewObject at x es) = Bad (NotHere at)
  states stand (source.NewArray at t e) = Bad (NotHere at)
  states stand (source.CallOf at e x es) = Bad (NotHere at)
  states stand (source.Postfixed at op e) = Bad (NotHere at)
  states stand (source.Assignment at op a b) = Bad (NotHere at)

  -- the further conjuncts of a range, behind those that stand before them
  pub conjuncts : Stand → Option Spec → source.Exprs → Typing (Option Spec)
  conjuncts stand before source.no_expr = Good before
  conjuncts stand before (source.and_expr e es) =
      states stand e >>= stated (place_of e) >>= as_boolean (place_of e) >>= λ v. conjuncts stand (Some (conjoined before v.node)) es

-- what a clause states is a boolean
unfoldable pub states_boolean : Stand → source.Expr → Typing Spec
states_boolean stand e = states stand e >>= stated (place_of e) >>= as_boolean (place_of e) >>= λ v. Good v.node

-- the members of `locks` and `monitors_for` are references
unfoldable pub states_reference : Stand → source.Expr → Typing Spec
states_reference stand e = states stand e >>= stated (place_of e) >>= as_reference (place_of e) >>= λ v. Good v.node
