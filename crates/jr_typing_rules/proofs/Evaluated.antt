-- What an expression denotes is right in its program (JLS 15).
use Rattle.std.proofs.Common.{not, Option, Some, None, refl, ◌∙◌}
use Rattle.jr_base.specs.declared.number.Span.{Span}
use Rattle.jr_base.specs.declared.kind.SlotKind.TheVariants as kinds
use Rattle.jr_ast.specs.Expressions as source
use Rattle.jr_ast.specs.Expressions.{place_of}
use Rattle.jr_ast.specs.declared.name.ElementType.{ElementType}
use Rattle.jr_ast.specs.declared.operator.Prefix.{Prefix}
use Rattle.jr_ast.specs.declared.operator.Prefix.TheVariants as prefixes
use Rattle.jr_program.specs.WellFormed.{Scope as Place, HasKind, ElementNamed}
use Rattle.jr_typing_rules.specs.Answers.{Typing, ◌>>=◌}
use Rattle.jr_typing_rules.specs.Types.{is_int, is_boolean}
use Rattle.jr_typing_rules.specs.Names.{named}
use Rattle.jr_typing_rules.specs.Scopes.{Scope}
use Rattle.jr_typing_rules.specs.Denotations.{Denotation, Value, Arguments, no_arguments, and_argument, value_of, variable_of, in_brackets, field_of, face_of, callee_of, own_callee, own_this, maker}
use Rattle.jr_typing_rules.specs.Operators.{Literal, literal, literal_under, is_of_jml, postfix_step, stepped_behind, infixed, conditional, operator_of, assigned}
use Rattle.jr_typing_rules.specs.Expressions.{element_type, as_int, as_boolean, prefixed, of_literal, literal_or, denotes, arguments, value}
use Rattle.jr_typing_rules.proofs.Holding.{Holds, holds-then, holds-require, holds-found, holds-weaker}
use Rattle.jr_typing_rules.proofs.Constants.{LiteralFits, literal-fits, negated-fits}
use Rattle.jr_typing_rules.proofs.OperatorKinds.{int-kind, boolean-kind, number-kind}
use Rattle.jr_typing_rules.proofs.Running.{not-true-false}
use Rattle.jr_typing_rules.proofs.TypesNamed.{ElementNames, element-names}
use Rattle.jr_typing_rules.proofs.Denoted.{ValueRight, TargetRight, Right, Around, value-right, target-right, brackets-right, name-right, field-right, element-right}
use Rattle.jr_typing_rules.proofs.Called.{ArgumentsHave, one-more-has, CalleeRight, callee-right, own-callee-right, called-right, MakerRight, maker-right, newly-right}
use Rattle.jr_typing_rules.proofs.Operated.{number-in, infixed-right, stepped-behind-right, postfix-fits, prefixed-right, conditional-right, assigned-right}
use Rattle.jr_typing_rules.proofs.Found.{Found}
use Rattle.jr_typing_rules.proofs.NamesAgree.{element-in}

-- ---- values that are asked for

as-value : (s : Place) (at : Span) (t : Typing Denotation) → Holds (Right s) t → Holds (ValueRight s) (t >>= value_of at)
as-value s at t right = holds-then (ValueRight s) (Right s) t (value_of at) right (value-right s at)

as-target : (s : Place) (at : Span) (t : Typing Denotation) → Holds (Right s) t → Holds (TargetRight s) (t >>= variable_of at)
as-target s at t right = holds-then (TargetRight s) (Right s) t (variable_of at) right (target-right s at)

abbrev pub IsIntValue : Place → Value → Type 0
IsIntValue s v = HasKind s v.node kinds.Int

abbrev pub IsCondition : Place → Value → Type 0
IsCondition s v = HasKind s v.node kinds.Bool

abbrev pub IsReference : Place → Value → Type 0
IsReference s v = HasKind s v.node kinds.Ref

int-right : (s : Place) (at : Span) (t : Typing Value) → Holds (ValueRight s) t → Holds (IsIntValue s) (t >>= as_int at)
int-right s at t right =
    holds-then (IsIntValue s) (ValueRight s) t (as_int at) right λ v has. holds-require (IsIntValue s) (is_int v.of) _ _ λ is. rw (int-kind v.of is) at has.0

pub condition-right : (s : Place) (at : Span) (t : Typing Value) → Holds (ValueRight s) t → Holds (IsCondition s) (t >>= as_boolean at)
condition-right s at t right =
    holds-then (IsCondition s) (ValueRight s) t (as_boolean at) right λ v has. holds-require (IsCondition s) (is_boolean v.of) _ _ λ is. rw (boolean-kind v.of is) at has.0

element-there : (s : Place) (scope : Scope) → Around s scope → (t : ElementType) → Holds (ElementNamed s.program) (element_type scope.names t)
element-there s scope around t =
    holds-weaker (ElementNames scope.names.numbers) (ElementNamed s.program) (element_type scope.names t) (element-names scope.names t)
    (element-in s.program scope.names.numbers around.names.classes)

-- ---- literals

of-literal : (s : Place) (t : Typing Literal) → Holds LiteralFits t → Holds (Right s) (t >>= of_literal)
of-literal s t fits = holds-then (Right s) LiteralFits t of_literal fits λ l fit. ((number-kind l.width, fit), number-in s.program l.width)

literal-under-fits : (op : Prefix) (e : source.Expr) → Found (Holds LiteralFits) (literal_under op e)
literal-under-fits prefixes.Negate (source.Integer at n) = negated-fits at n
literal-under-fits _ _ = tt

literal-or : (s : Place) (o : Option (Typing Literal)) (t : Typing Denotation) → Found (Holds LiteralFits) o → Holds (Right s) t → Holds (Right s) (literal_or o t)
literal-or s (Some n) t fits right = of-literal s n fits
literal-or s None t fits right = right

-- ---- expressions

mutual
  pub denoted : (s : Place) (scope : Scope) → Around s scope → (e : source.Expr) → Holds (Right s) (denotes scope e)
  denoted s scope around (source.Null at) = (refl, tt)
  denoted s scope around (source.Boolean at b) = (refl, tt)
  denoted s scope around (source.Integer at n) = of-literal s (literal at n) (literal-fits at n)
  denoted s scope around (source.This at) =
      holds-require (Right s) (not scope.is_static) _ _ λ instance. ((around.static ∙ not-true-false scope.is_static instance, refl), around.own)
  denoted s scope around (source.SimpleName at x) = name-right s scope around at x
  denoted s scope around (source.ClassLiteral at x) =
      holds-found (Right s) (named x.text scope.names.numbers) _ _ λ c found. ((around.names.classes x.text c found, refl), tt)
  denoted s scope around (source.Brackets at e) =
      holds-then (Right s) (Right s) (denotes scope e) (in_brackets (place_of e)) (denoted s scope around e) (brackets-right s (place_of e))
  denoted s scope around (source.Call at x es) =
      holds-then (Right s) (CalleeRight s (own_this scope)) (own_callee scope at x) _ (own-callee-right s scope around at x) λ callee right.
      holds-then (Right s) (λ (given : Arguments). ArgumentsHave s given.heads given.nodes) (arguments scope no_arguments es) _
      (arguments-have s scope around no_arguments tt es) λ given have. called-right s scope.names at callee (own_this scope) given right have
  denoted s scope around (source.NewObject at x es) =
      holds-then (Right s) (MakerRight s) (maker scope at x) _ (maker-right s scope around at x) λ m right.
      holds-then (Right s) (λ (given : Arguments). ArgumentsHave s given.heads given.nodes) (arguments scope no_arguments es) _
      (arguments-have s scope around no_arguments tt es) λ given have. newly-right s scope.names at m given right have
  denoted s scope around (source.NewArray at t e) =
      holds-then (Right s) (ElementNamed s.program) (element_type scope.names t) _ (element-there s scope around t) λ t there.
      holds-then (Right s) (IsIntValue s) (denotes scope e >>= value_of (place_of e) >>= as_int (place_of e)) _
      (int-right s (place_of e) (denotes scope e >>= value_of (place_of e)) (as-value s (place_of e) (denotes scope e) (denoted s scope around e))) λ size is.
      ((is, refl, there), there)
  denoted s scope around (source.FieldOf at e x) =
      holds-then (Right s) (Right s) (denotes scope e) (field_of scope at x) (denoted s scope around e) (field-right s scope around at x)
  denoted s scope around (source.CallOf at e x es) =
      holds-then (Right s) (Right s) (denotes scope e) _ (denoted s scope around e) λ m is.
      holds-then (Right s) (CalleeRight s m) (callee_of scope at x (face_of m)) _ (callee-right s scope around at x m is) λ callee right.
      holds-then (Right s) (λ (given : Arguments). ArgumentsHave s given.heads given.nodes) (arguments scope no_arguments es) _
      (arguments-have s scope around no_arguments tt es) λ given have. called-right s scope.names at callee m given right have
  denoted s scope around (source.ElementOf at e i) =
      holds-then (Right s) (ValueRight s) (denotes scope e >>= value_of at) _ (as-value s at (denotes scope e) (denoted s scope around e)) λ v right.
      holds-then (Right s) (IsIntValue s) (denotes scope i >>= value_of (place_of i) >>= as_int (place_of i)) _
      (int-right s (place_of i) (denotes scope i >>= value_of (place_of i)) (as-value s (place_of i) (denotes scope i) (denoted s scope around i))) λ index is.
      element-right s at index.node v is right
  denoted s scope around (source.Prefixed at op e) =
      literal-or s (literal_under op e) (denotes scope e >>= prefixed at (place_of e) op) (literal-under-fits op e)
      (holds-then (Right s) (Right s) (denotes scope e) (prefixed at (place_of e) op) (denoted s scope around e) (prefixed-right s at (place_of e) op))
  denoted s scope around (source.Postfixed at op e) =
      holds-then (Right s) (TargetRight s) (denotes scope e >>= variable_of (place_of e)) (stepped_behind at (postfix_step op))
      (as-target s (place_of e) (denotes scope e) (denoted s scope around e)) λ x right. stepped-behind-right s at (postfix_step op) x (postfix-fits op) right
  denoted s scope around (source.Infixed at op a b) =
      holds-require (Right s) (not (is_of_jml op)) _ _ λ of_java.
      holds-then (Right s) (ValueRight s) (denotes scope a >>= value_of (place_of a)) _ (as-value s (place_of a) (denotes scope a) (denoted s scope around a)) λ left is.
      holds-then (Right s) (ValueRight s) (denotes scope b >>= value_of (place_of b)) (infixed scope.names at op left)
      (as-value s (place_of b) (denotes scope b) (denoted s scope around b)) λ right is_too. infixed-right s scope.names at op left right is is_too
  denoted s scope around (source.Conditional at c a b) =
      holds-then (Right s) (IsCondition s) (denotes scope c >>= value_of (place_of c) >>= as_boolean (place_of c)) _
      (condition-right s (place_of c) (denotes scope c >>= value_of (place_of c)) (as-value s (place_of c) (denotes scope c) (denoted s scope around c))) λ condition true_or_false.
      holds-then (Right s) (ValueRight s) (denotes scope a >>= value_of (place_of a)) _ (as-value s (place_of a) (denotes scope a) (denoted s scope around a)) λ left is.
      holds-then (Right s) (ValueRight s) (denotes scope b >>= value_of (place_of b)) (conditional scope.names at condition left)
      (as-value s (place_of b) (denotes scope b) (denoted s scope around b)) λ right is_too. conditional-right s scope.names at condition left right true_or_false is is_too
  denoted s scope around (source.Assignment at op a b) =
      holds-then (Right s) (TargetRight s) (denotes scope a >>= variable_of (place_of a)) _ (as-target s (place_of a) (denotes scope a) (denoted s scope around a)) λ x target.
      holds-then (Right s) (ValueRight s) (denotes scope b >>= value_of (place_of b)) (assigned scope.names at (place_of b) (operator_of op) x)
      (as-value s (place_of b) (denotes scope b) (denoted s scope around b)) λ v right. assigned-right s scope.names at (place_of b) op x v target right
  denoted s scope around _ = tt

  arguments-have : (s : Place) (scope : Scope) → Around s scope → (before : Arguments) → ArgumentsHave s before.heads before.nodes → (es : source.Exprs) →
      Holds (λ given. ArgumentsHave s given.heads given.nodes) (arguments scope before es)
  arguments-have s scope around before have source.no_expr = have
  arguments-have s scope around before have (source.and_expr e es) =
      holds-then (λ (given : Arguments). ArgumentsHave s given.heads given.nodes) (ValueRight s) (denotes scope e >>= value_of (place_of e)) _
      (as-value s (place_of e) (denotes scope e) (denoted s scope around e)) λ v right.
      arguments-have s scope around (and_argument before (place_of e) v)
      (one-more-has s before.heads before.nodes (record { place = place_of e; of = v.of }) v.node have right.0) es

pub valued : (s : Place) (scope : Scope) → Around s scope → (e : source.Expr) → Holds (ValueRight s) (value scope e)
valued s scope around e = as-value s (place_of e) (denotes scope e) (denoted s scope around e)
