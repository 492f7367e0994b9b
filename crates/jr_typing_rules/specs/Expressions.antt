-- Expressions (JLS 15): what each denotes, or which rule it breaks, where the rules are applied from left to
-- right.
use Rattle.std.specs.Prelude.{ℤ, cond, not, Option, Some, None, codes}
use Rattle.std.specs.Str.{bytes_eq}
use Rattle.jr_base.specs.declared.number.Span.{Span}
use Rattle.jr_base.specs.declared.action.Elem.{Elem}
use Rattle.jr_base.specs.declared.action.Elem.TheVariants as elem
use Rattle.jr_base.specs.declared.number.ClassId.{ClassId}
use Rattle.jr_base.specs.declared.refusal.Refusal.TheVariants.{Unknown, Mismatch, NotHere}
use Rattle.jr_ast.specs.declared.name.Name.{Name}
use Rattle.jr_ast.specs.declared.name.ElementType.{ElementType}
use Rattle.jr_ast.specs.declared.name.ElementType.TheVariants as element_name
use Rattle.jr_ast.specs.declared.operator.Prefix.{Prefix}
use Rattle.jr_ast.specs.Expressions as source
use Rattle.jr_ast.specs.Expressions.{place_of}
use Rattle.jr_typing_rules.specs.declared.words.ValueType.TheVariants as type
use Rattle.jr_typing_rules.specs.Answers.{Typing, Good, Bad, ◌>>=◌, require, found}
use Rattle.jr_typing_rules.specs.Types.{is_int, is_boolean, boolean, object, number}
use Rattle.jr_typing_rules.specs.Names.{Names, named}
use Rattle.jr_typing_rules.specs.Scopes.{Scope}
use Rattle.jr_program.specs.Programs as program
use Rattle.jr_typing_rules.specs.Denotations.{Denotation, AValue, Value, Arguments, no_arguments, and_argument, value_of, variable_of, in_brackets, simple_name, field_of, element, face_of, callee_of, own_callee, own_this, maker, called, newly_made}
use Rattle.jr_typing_rules.specs.Operators.{Literal, literal, literal_under, is_of_java, step_of, postfix_step, operated, stepped_before, stepped_behind, infixed, conditional, operator_of, assigned}

-- ---- primaries

abbrev pub this : Scope → Span → Typing Denotation
this scope at = require (not scope.is_static) (Mismatch at) >>= λ u. Good (AValue (type.Single (elem.Class scope.own)) program.This)

abbrev pub class_literal : Scope → Name → Typing Denotation
class_literal scope x = found (named x.text scope.names.numbers) (Unknown x.place) >>= λ (c : ClassId). Good (AValue object (program.ClassObject c))

-- the type that a name stands for (JLS 6.5.5)
unfoldable pub element_type : Names → ElementType → Typing Elem
element_type names element_name.Int = Good elem.Int
element_type names element_name.Long = Good elem.Long
element_type names element_name.Boolean = Good elem.Bool
element_type names (element_name.Class x) =
    cond (bytes_eq x.text (codes "Object")) (Good elem.Object)
    (cond (bytes_eq x.text (codes "Thread")) (Good elem.Thread)
    (cond (bytes_eq x.text (codes "Runnable")) (Good elem.Runnable)
    (found (named x.text names.numbers) (Unknown x.place) >>= λ (c : ClassId). Good (elem.Class c))))

-- an int is asked for, where its first token stands there
abbrev pub as_int : Span → Value → Typing Value
as_int at v = require (is_int v.of) (Mismatch at) >>= λ u. Good v

abbrev pub as_boolean : Span → Value → Typing Value
as_boolean at v = require (is_boolean v.of) (Mismatch at) >>= λ u. Good v

abbrev pub new_array : Elem → Value → Denotation
new_array t size = AValue (type.ArrayOf t) (program.NewArray t size.node)

-- ---- the operators before an operand

-- an increment or decrement of a variable, else an operator on a value
abbrev pub stepped_or_operated : Span → Span → Prefix → Option ℤ → Denotation → Typing Denotation
stepped_or_operated at operand op (Some n) m = variable_of operand m >>= stepped_before at n
stepped_or_operated at operand op None m = value_of operand m >>= operated at op

abbrev pub prefixed : Span → Span → Prefix → Denotation → Typing Denotation
prefixed at operand op m = stepped_or_operated at operand op (step_of op) m

abbrev pub of_literal : Literal → Typing Denotation
of_literal n = Good (AValue (number n.width) (program.Number n.width n.value))

abbrev pub literal_or : Option (Typing Literal) → Typing Denotation → Typing Denotation
literal_or (Some n) other = n >>= of_literal
literal_or None other = other

abbrev mutual
  pub denotes : Scope → source.Expr → Typing Denotation
  denotes scope (source.Null at) = Good (AValue type.Null program.Null)
  denotes scope (source.Boolean at b) = Good (AValue boolean (program.Truth b))
  denotes scope (source.Integer at n) = literal at n >>= of_literal
  denotes scope (source.This at) = this scope at
  denotes scope (source.SimpleName at x) = simple_name scope at x
  denotes scope (source.ClassLiteral at x) = class_literal scope x
  denotes scope (source.Brackets at e) = denotes scope e >>= in_brackets (place_of e)
  denotes scope (source.Call at x es) =
      own_callee scope at x >>= λ callee. arguments scope no_arguments es >>= called scope.names at callee (own_this scope)
  denotes scope (source.NewObject at x es) =
      maker scope at x >>= λ maker. arguments scope no_arguments es >>= newly_made scope.names at maker
  denotes scope (source.NewArray at t e) =
      element_type scope.names t >>= λ t. denotes scope e >>= value_of (place_of e) >>= as_int (place_of e) >>= λ size. Good (new_array t size)
  denotes scope (source.FieldOf at e x) = denotes scope e >>= field_of scope at x
  denotes scope (source.CallOf at e x es) =
      denotes scope e >>= λ m. callee_of scope at x (face_of m) >>= λ callee. arguments scope no_arguments es >>= called scope.names at callee m
  denotes scope (source.ElementOf at e i) =
      denotes scope e >>= value_of at >>= λ v. denotes scope i >>= value_of (place_of i) >>= as_int (place_of i) >>= λ index. element at index.node v
  denotes scope (source.Prefixed at op e) = literal_or (literal_under op e) (denotes scope e >>= prefixed at (place_of e) op)
  denotes scope (source.Postfixed at op e) = denotes scope e >>= variable_of (place_of e) >>= stepped_behind at (postfix_step op)
  denotes scope (source.Infixed at op a b) =
      is_of_java at op >>= λ u.
      denotes scope a >>= value_of (place_of a) >>= λ left. denotes scope b >>= value_of (place_of b) >>= infixed scope.names at op left
  denotes scope (source.Conditional at c a b) =
      denotes scope c >>= value_of (place_of c) >>= as_boolean (place_of c) >>= λ condition.
      denotes scope a >>= value_of (place_of a) >>= λ one.
      denotes scope b >>= value_of (place_of b) >>= conditional scope.names at condition one
  denotes scope (source.Assignment at op a b) =
      denotes scope a >>= variable_of (place_of a) >>= λ target.
      denotes scope b >>= value_of (place_of b) >>= assigned scope.names at (place_of b) (operator_of op) target
  -- forms of clauses alone
  denotes scope (source.MethodResult at) = Bad (NotHere at)
  denotes scope (source.Old at e) = Bad (NotHere at)
  denotes scope (source.InLockset at e) = Bad (NotHere at)
  denotes scope (source.Quantified at q x low low_bound high high_bound conjuncts body) = Bad (NotHere at)

  -- arguments, behind those that stand before them
  pub arguments : Scope → Arguments → source.Exprs → Typing Arguments
  arguments scope before source.no_expr = Good before
  arguments scope before (source.and_expr e es) =
      denotes scope e >>= value_of (place_of e) >>= λ v. arguments scope (and_argument before (place_of e) v) es

-- an expression that has a value
abbrev pub value : Scope → source.Expr → Typing Value
value scope e = denotes scope e >>= value_of (place_of e)

abbrev pub int_value : Scope → source.Expr → Typing Value
int_value scope e = value scope e >>= as_int (place_of e)

-- ---- what follows a primary

-- what stands before a suffix is known: the whole, whose first token stands there
abbrev pub member : Scope → Span → Denotation → source.Suffix → Typing Denotation
member scope at m (source.Field x) = field_of scope at x m
member scope at m (source.Invocation x es) = callee_of scope at x (face_of m) >>= λ callee. arguments scope no_arguments es >>= called scope.names at callee m
member scope at m (source.Index i) = value_of at m >>= λ v. int_value scope i >>= λ index. element at index.node v
