-- What an expression of a clause states has the kind of its type.
use Rattle.std.proofs.Common.{◌≡◌, ◌<◌, ◌&&◌, ℕ, ◌+◌, Bool, true, false, cond, not, List, length, Option, Some, None, nat_lt, refl, arith}
use Rattle.std.specs.Option.{option_map}
use Rattle.std.proofs.lemmas.Bool.Decides.{nat_tests}
use Rattle.jr_base.specs.declared.number.Span.{Span}
use Rattle.jr_base.specs.declared.number.ClassId.{ClassId}
use Rattle.jr_base.specs.declared.kind.SlotKind.{SlotKind}
use Rattle.jr_base.specs.declared.kind.SlotKind.TheVariants as kind
use Rattle.jr_base.specs.declared.action.Elem.TheVariants as elem
use Rattle.jr_arith.specs.declared.operator.Width.{Width}
use Rattle.jr_ast.specs.declared.name.Name.{Name}
use Rattle.jr_ast.specs.declared.operator.Prefix.{Prefix}
use Rattle.jr_ast.specs.declared.operator.Prefix.TheVariants as prefixes
use Rattle.jr_ast.specs.declared.operator.Infix.{Infix}
use Rattle.jr_ast.specs.Expressions as source
use Rattle.jr_ast.specs.Expressions.{place_of}
use Rattle.jr_program.specs.ClauseKinds.{ClauseScope, SpecHas, deepest_quantifier}
use Rattle.jr_program.specs.Clauses.{Spec}
use Rattle.jr_program.specs.Programs.{Program}
use Rattle.jr_typing_rules.specs.declared.words.ValueType.{ValueType}
use Rattle.jr_typing_rules.specs.declared.words.ValueType.TheVariants as type
use Rattle.jr_typing_rules.specs.declared.words.Joint.{Joint}
use Rattle.jr_typing_rules.specs.declared.words.Joint.TheVariants as joint
use Rattle.jr_typing_rules.specs.declared.words.Operation.{Operation}
use Rattle.jr_typing_rules.specs.declared.words.Single.{Single}
use Rattle.jr_typing_rules.specs.declared.words.Single.TheVariants.{Kept, Applied}
use Rattle.jr_typing_rules.specs.Agreement.{AgreesWith}
use Rattle.jr_typing_rules.specs.Answers.{Typing, Good, ◌>>=◌}
use Rattle.jr_typing_rules.specs.Types.{is_int, is_boolean, is_reference, width_to, kind_of}
use Rattle.jr_typing_rules.specs.Names.{named}
use Rattle.jr_typing_rules.specs.Operators.{Literal, literal, literal_under, operation, single, wider}
use Rattle.jr_typing_rules.specs.Predicates.{Stand, Term, Stated, stated, converted, brought, is_new, and_quantified, this, class_literal, method_result, element_of, as_int, as_boolean, as_reference, of_literal, literal_or, applied, has_no_effect, prefixed, joined, infixed, conditional, conjoined, all_conjoined, states, conjuncts, states_boolean, states_reference}
use Rattle.jr_typing_rules.specs.Types.{members_of}
use Rattle.jr_typing_rules.proofs.Holding.{Holds, holds-next, holds-then, holds-require, holds-found}
use Rattle.jr_typing_rules.proofs.Constants.{LiteralFits, literal-fits, negated-fits}
use Rattle.jr_typing_rules.proofs.Known.{both}
use Rattle.jr_typing_rules.proofs.MadeRight.{kind-not-caught}
use Rattle.jr_typing_rules.proofs.NamedKinds.{StatedHas, TermHas, as-kind, value-has, ArePlaced, ScopeFits, name-has, field-has}
use Rattle.jr_typing_rules.proofs.OperatorKinds.{BringsBy, Brings, number-kind, int-kind, boolean-kind, reference-kind, JointFits, OperationFits, operation-fits, SingleFits, single-fits, BothBring, wider-fits}
use Rattle.jr_typing_rules.proofs.Running.{not-true-false}
use Rattle.jr_typing_rules.proofs.Found.{Found, found-some}

-- what stands around an expression, by the rules of names; q quantifiers do
abbrev pub scope_for : Program → List SlotKind → ℕ → Stand → ClauseScope
scope_for program variables q stand = record {
  program = program;
  is_static = stand.scope.is_static;
  variables = variables;
  result = cond stand.is_in_old None (option_map kind_of stand.result);
  looks_back = cond stand.is_in_old false stand.looks_back;
  is_in_old = stand.is_in_old;
  quantifiers = q;
}

-- ---- what is asked for

int-has : (s : ClauseScope) (at : Span) (t : Typing Stated) → Holds (StatedHas s) t → Holds (λ (v : Stated). SpecHas s v.node kind.Int) (t >>= as_int at)
int-has s at t has =
    let Q = λ (v : Stated). SpecHas s v.node kind.Int in
    holds-then Q (StatedHas s) t _ has λ v is. holds-require Q (is_int v.of) _ _ λ int. as-kind s v.node (kind_of v.of) kind.Int (int-kind v.of int) is

boolean-has : (s : ClauseScope) (at : Span) (t : Typing Stated) → Holds (StatedHas s) t → Holds (λ (v : Stated). SpecHas s v.node kind.Bool) (t >>= as_boolean at)
boolean-has s at t has =
    let Q = λ (v : Stated). SpecHas s v.node kind.Bool in
    holds-then Q (StatedHas s) t _ has λ v is. holds-require Q (is_boolean v.of) _ _ λ boolean. as-kind s v.node (kind_of v.of) kind.Bool (boolean-kind v.of boolean) is

reference-has : (s : ClauseScope) (at : Span) (t : Typing Stated) → Holds (StatedHas s) t → Holds (λ (v : Stated). SpecHas s v.node kind.Ref) (t >>= as_reference at)
reference-has s at t has =
    let Q = λ (v : Stated). SpecHas s v.node kind.Ref in
    holds-then Q (StatedHas s) t _ has λ v is. holds-require Q (is_reference v.of) _ _ λ ref. as-kind s v.node (kind_of v.of) kind.Ref (reference-kind v.of ref) is

converted-has : (s : ClauseScope) (w : Option Width) (a t : ValueType) (e : Spec) → BringsBy w a t → SpecHas s e (kind_of a) → SpecHas s (converted w e) (kind_of t)
converted-has s None a t e brings has = as-kind s e (kind_of a) (kind_of t) brings has
converted-has s (Some w) a t e brings has = (as-kind s e (kind_of a) _ brings.0 has, brings.1)

brought-has : (s : ClauseScope) (a t : ValueType) (e : Spec) → Brings a t → SpecHas s e (kind_of a) → SpecHas s (brought a t e) (kind_of t)
brought-has s a t e brings has = converted-has s (width_to a t) a t e brings has

-- ---- primaries

this-has : (program : Program) (variables : List SlotKind) (q : ℕ) (stand : Stand) (at : Span) → Holds (TermHas (scope_for program variables q stand)) (this stand at)
this-has program variables q stand at =
    holds-require (TermHas (scope_for program variables q stand)) (not stand.scope.is_static) _ _ λ instance. (not-true-false stand.scope.is_static instance, refl)

class-has : (s : ClauseScope) (stand : Stand) → AgreesWith stand.scope.names s.program → (x : Name) → Holds (TermHas s) (class_literal stand x)
class-has s stand agree x = holds-found (TermHas s) (named x.text stand.scope.names.numbers) _ _ λ (c : ClassId) found. (agree.classes x.text c found, refl)

result-kind : (in_old : Bool) (o : Option ValueType) (t : ValueType) → in_old ≡ false → o ≡ Some t → cond in_old None (option_map kind_of o) ≡ Some (kind_of t)
result-kind in_old o t outside is = rw (outside, is) refl

result-has : (program : Program) (variables : List SlotKind) (q : ℕ) (stand : Stand) (at : Span) → Holds (TermHas (scope_for program variables q stand)) (method_result stand at)
result-has program variables q stand at =
    let Q = TermHas (scope_for program variables q stand) in
    holds-require Q (not stand.is_in_old) _ _ λ outside.
    holds-found Q stand.result _ _ λ (t : ValueType) is.
    (result-kind stand.is_in_old stand.result t (not-true-false stand.is_in_old outside) is, kind-not-caught t)

element-has : (s : ClauseScope) (at : Span) (t : ValueType) (e i : Spec) → SpecHas s e (kind_of t) → SpecHas s i kind.Int → Holds (TermHas s) (element_of at (members_of t) e i)
element-has s at (type.ArrayOf t) e i has index = (has, index, kind-not-caught (type.Single t))
element-has s at type.Null e i has index = tt
element-has s at (type.Single elem.Int) e i has index = tt
element-has s at (type.Single t) e i has index = tt

-- ---- operators

literal-has : (s : ClauseScope) (t : Typing Literal) → Holds LiteralFits t → Holds (TermHas s) (t >>= of_literal)
literal-has s t fits = holds-then (TermHas s) LiteralFits t of_literal fits λ n is. (number-kind n.width, is)

under-fits : (op : Prefix) (e : source.Expr) → Found (Holds LiteralFits) (literal_under op e)
under-fits prefixes.Negate (source.Integer at n) = negated-fits at n
under-fits op e = tt

literal-or-has : (s : ClauseScope) (o : Option (Typing Literal)) (t : Typing Term) → Found (Holds LiteralFits) o → Holds (TermHas s) t → Holds (TermHas s) (literal_or o t)
literal-or-has s (Some n) t fits has = literal-has s n fits
literal-or-has s None t fits has = has

applied-has : (s : ClauseScope) (t : ValueType) (op : Single) (e : Spec) → SingleFits t op → SpecHas s e (kind_of t) → SpecHas s (applied op e) (kind_of t)
applied-has s t Kept e fits has = has
applied-has s t (Applied op) e fits has = (as-kind s e (kind_of t) _ fits has, fits)

prefixed-has : (s : ClauseScope) (at : Span) (op : Prefix) (v : Stated) → StatedHas s v → Holds (TermHas s) (prefixed at op v)
prefixed-has s at op v has =
    holds-found (TermHas s) (single op v.of) _ _ λ (o : Single) is. applied-has s v.of o v.node (found-some (SingleFits v.of) (single op v.of) o (single-fits op v.of) is) has

joined-has : (s : ClauseScope) (j : Joint) (l r k : SlotKind) (a b : Spec) → JointFits j l r k → SpecHas s a l → SpecHas s b r → SpecHas s (joined j a b) k
joined-has s (joint.Strict op) l r k a b fits left right = (as-kind s a l _ fits.0 left, as-kind s b r _ fits.1 right, fits.2)
joined-has s joint.And l r k a b fits left right = (as-kind s a l kind.Bool fits.0 left, as-kind s b r kind.Bool fits.1 right, fits.2)
joined-has s joint.Or l r k a b fits left right = (as-kind s a l kind.Bool fits.0 left, as-kind s b r kind.Bool fits.1 right, fits.2)
joined-has s joint.Implies l r k a b fits left right = (as-kind s a l kind.Bool fits.0 left, as-kind s b r kind.Bool fits.1 right, fits.2)
joined-has s joint.ImpliedBy l r k a b fits left right = (as-kind s a l kind.Bool fits.0 left, as-kind s b r kind.Bool fits.1 right, fits.2)

infixed-has : (s : ClauseScope) (stand : Stand) (at : Span) (op : Infix) (a b : Stated) → StatedHas s a → StatedHas s b → Holds (TermHas s) (infixed stand at op a b)
infixed-has s stand at op a b left right =
    holds-found (TermHas s) (operation stand.scope.names op a.of b.of) _ _ λ (o : Operation) is.
    let fits = found-some (OperationFits a.of b.of) (operation stand.scope.names op a.of b.of) o (operation-fits stand.scope.names op a.of b.of) is in
    joined-has s o.joint (kind_of o.left) (kind_of o.right) (kind_of o.of) _ _ fits.joint (brought-has s a.of o.left a.node fits.left left) (brought-has s b.of o.right b.node fits.right right)

conditional-has : (s : ClauseScope) (stand : Stand) (at : Span) (c a b : Stated) → SpecHas s c.node kind.Bool → StatedHas s a → StatedHas s b → Holds (TermHas s) (conditional stand at c a b)
conditional-has s stand at c a b condition one two =
    holds-found (TermHas s) (wider stand.scope.names a.of b.of) _ _ λ (t : ValueType) is.
    let fits = found-some (BothBring a.of b.of) (wider stand.scope.names a.of b.of) t (wider-fits stand.scope.names a.of b.of) is in
    (condition, brought-has s a.of t a.node fits.0 one, brought-has s b.of t b.node fits.1 two)

-- ---- quantifiers and `\old`

looks-back : (in_old back : Bool) → (back && not in_old) ≡ true → cond in_old false back ≡ true
looks-back in_old back may = let halves = both back (not in_old) may in rw (not-true-false in_old halves.1, halves.0) refl

conjoined-has : (s : ClauseScope) (before : Option Spec) (e : Spec) → Found (λ b. SpecHas s b kind.Bool) before → SpecHas s e kind.Bool → SpecHas s (conjoined before e) kind.Bool
conjoined-has s (Some b) e one two = (one, two, refl)
conjoined-has s None e one two = two

all-conjoined-has : (s : ClauseScope) (range : Option Spec) → Found (λ b. SpecHas s b kind.Bool) range → SpecHas s (all_conjoined range) kind.Bool
all-conjoined-has s (Some b) has = has
all-conjoined-has s None has = refl

below : (a b q : ℕ) → a ≡ q → nat_lt a b ≡ true → q < b
below a b q same less = let is : a < b = grind (arith, nat_tests) in omega (arith, same, is)

-- what is asked of a place in a clause
pub record StandFits (program : Program) (variables : List SlotKind) (q : ℕ) (stand : Stand) : Type 0 where
  pub names : AgreesWith stand.scope.names program
  pub placed : ArePlaced variables stand.scope.variables
  pub quantifiers : length stand.quantified ≡ q

scope-fits : (program : Program) (variables : List SlotKind) (q : ℕ) (stand : Stand) → StandFits program variables q stand → ScopeFits (scope_for program variables q stand) stand.scope
scope-fits program variables q stand fits = record { names = fits.names; static = refl; variables = fits.placed }

in-old : (program : Program) (variables : List SlotKind) (q : ℕ) (stand : Stand) → StandFits program variables q stand → StandFits program variables q (record stand { is_in_old = true })
in-old program variables q stand fits = record { names = fits.names; placed = fits.placed; quantifiers = fits.quantifiers }

in-quantifier : (program : Program) (variables : List SlotKind) (q : ℕ) (stand : Stand) (x : Name) → StandFits program variables q stand →
    StandFits program variables (q + 1) (and_quantified stand x)
in-quantifier program variables q stand x fits = record { names = fits.names; placed = fits.placed; quantifiers = omega (arith, fits.quantifiers) }

-- ---- expressions

mutual
  pub states-has : (program : Program) (variables : List SlotKind) (q : ℕ) (stand : Stand) → StandFits program variables q stand → (e : source.Expr) →
      Holds (TermHas (scope_for program variables q stand)) (states stand e)
  states-has program variables q stand fits (source.Null at) = refl
  states-has program variables q stand fits (source.Boolean at b) = refl
  states-has program variables q stand fits (source.Integer at n) = literal-has (scope_for program variables q stand) (literal at n) (literal-fits at n)
  states-has program variables q stand fits (source.This at) = this-has program variables q stand at
  states-has program variables q stand fits (source.SimpleName at x) =
      name-has (scope_for program variables q stand) stand (scope-fits program variables q stand fits) fits.quantifiers x
  states-has program variables q stand fits (source.ClassLiteral at x) = class-has (scope_for program variables q stand) stand fits.names x
  states-has program variables q stand fits (source.Brackets at e) =
      let s = scope_for program variables q stand in
      holds-then (TermHas s) (TermHas s) (states stand e) _ (states-has program variables q stand fits e) λ m has.
      holds-then (TermHas s) (StatedHas s) (stated (place_of e) m) _ (value-has s (place_of e) (Good m) has) λ v is. is
  states-has program variables q stand fits (source.FieldOf at e x) =
      let s = scope_for program variables q stand in
      holds-then (TermHas s) (TermHas s) (states stand e) _ (states-has program variables q stand fits e) λ m has.
      field-has s stand (scope-fits program variables q stand fits) at x m has
  states-has program variables q stand fits (source.ElementOf at e i) =
      let s = scope_for program variables q stand in
      holds-then (TermHas s) (StatedHas s) (states stand e >>= stated at) _ (value-has s at (states stand e) (states-has program variables q stand fits e)) λ v has.
      holds-then (TermHas s) (λ (v : Stated). SpecHas s v.node kind.Int) (states stand i >>= stated (place_of i) >>= as_int (place_of i)) _
      (int-has s (place_of i) _ (value-has s (place_of i) (states stand i) (states-has program variables q stand fits i)))
      λ index is. element-has s at v.of v.node index.node has is
  states-has program variables q stand fits (source.Prefixed at op e) =
      let s = scope_for program variables q stand in
      holds-next (TermHas s) (has_no_effect at op) _ λ u none.
      literal-or-has s (literal_under op e) _ (under-fits op e)
      (holds-then (TermHas s) (StatedHas s) (states stand e >>= stated (place_of e)) _ (value-has s (place_of e) (states stand e) (states-has program variables q stand fits e)) λ v has.
      prefixed-has s at op v has)
  states-has program variables q stand fits (source.Infixed at op a b) =
      let s = scope_for program variables q stand in
      holds-then (TermHas s) (StatedHas s) (states stand a >>= stated (place_of a)) _ (value-has s (place_of a) (states stand a) (states-has program variables q stand fits a)) λ left one.
      holds-then (TermHas s) (StatedHas s) (states stand b >>= stated (place_of b)) _ (value-has s (place_of b) (states stand b) (states-has program variables q stand fits b)) λ right two.
      infixed-has s stand at op left right one two
  states-has program variables q stand fits (source.Conditional at c a b) =
      let s = scope_for program variables q stand in
      holds-then (TermHas s) (λ (v : Stated). SpecHas s v.node kind.Bool) (states stand c >>= stated (place_of c) >>= as_boolean (place_of c)) _
      (boolean-has s (place_of c) _ (value-has s (place_of c) (states stand c) (states-has program variables q stand fits c))) λ condition is.
      holds-then (TermHas s) (StatedHas s) (states stand a >>= stated (place_of a)) _ (value-has s (place_of a) (states stand a) (states-has program variables q stand fits a)) λ left one.
      holds-then (TermHas s) (StatedHas s) (states stand b >>= stated (place_of b)) _ (value-has s (place_of b) (states stand b) (states-has program variables q stand fits b)) λ right two.
      conditional-has s stand at condition left right is one two
  states-has program variables q stand fits (source.MethodResult at) = result-has program variables q stand at
  states-has program variables q stand fits (source.Old at e) =
      let s = scope_for program variables q stand in
      let inner = record stand { is_in_old = true } in
      let old = scope_for program variables q inner in
      holds-require (TermHas s) (stand.looks_back && not stand.is_in_old) _ _ λ may.
      holds-then (TermHas s) (StatedHas old) (states inner e >>= stated (place_of e)) _
      (value-has old (place_of e) (states inner e) (states-has program variables q inner (in-old program variables q stand fits) e)) λ v has.
      (looks-back stand.is_in_old stand.looks_back may, has)
  states-has program variables q stand fits (source.InLockset at e) =
      let s = scope_for program variables q stand in
      holds-require (TermHas s) (not stand.is_in_old) _ _ λ outside.
      holds-then (TermHas s) (λ (v : Stated). SpecHas s v.node kind.Ref) (states stand e >>= stated (place_of e) >>= as_reference (place_of e)) _
      (reference-has s (place_of e) _ (value-has s (place_of e) (states stand e) (states-has program variables q stand fits e))) λ v is.
      (not-true-false stand.is_in_old outside, is, refl)
  states-has program variables q stand fits (source.Quantified at op x low low_bound high high_bound es e) =
      let s = scope_for program variables q stand in
      let inner = and_quantified stand x in
      let body = scope_for program variables (q + 1) inner in
      let deeper = in-quantifier program variables q stand x fits in
      holds-require (TermHas s) (nat_lt (length stand.quantified) deepest_quantifier) _ _ λ few.
      holds-require (TermHas s) (is_new stand x.text) _ _ λ new.
      holds-then (TermHas s) (λ (v : Stated). SpecHas s v.node kind.Int) (states stand low >>= stated (place_of low) >>= as_int (place_of low)) _
      (int-has s (place_of low) _ (value-has s (place_of low) (states stand low) (states-has program variables q stand fits low))) λ l from.
      holds-then (TermHas s) (λ (v : Stated). SpecHas s v.node kind.Int) (states stand high >>= stated (place_of high) >>= as_int (place_of high)) _
      (int-has s (place_of high) _ (value-has s (place_of high) (states stand high) (states-has program variables q stand fits high))) λ h to.
      holds-then (TermHas s) (Found (λ b. SpecHas body b kind.Bool)) (conjuncts inner None es) _ (conjuncts-have program variables (q + 1) inner deeper None tt es) λ range ranges.
      holds-then (TermHas s) (λ (v : Stated). SpecHas body v.node kind.Bool) (states inner e >>= stated (place_of e) >>= as_boolean (place_of e)) _
      (boolean-has body (place_of e) _ (value-has body (place_of e) (states inner e) (states-has program variables (q + 1) inner deeper e))) λ v is.
      (below (length stand.quantified) deepest_quantifier q fits.quantifiers few, from, to, all-conjoined-has body range ranges, is, refl)
  states-has program variables q stand fits (source.Call at x es) = tt
  states-has program variables q stand fits (source.NewObject at x es) = tt
  states-has program variables q stand fits (source.NewArray at t e) = tt
  states-has program variables q stand fits (source.CallOf at e x es) = tt
  states-has program variables q stand fits (source.Postfixed at op e) = tt
  states-has program variables q stand fits (source.Assignment at op a b) = tt

  conjuncts-have : (program : Program) (variables : List SlotKind) (q : ℕ) (stand : Stand) → StandFits program variables q stand → (before : Option Spec) →
      Found (λ b. SpecHas (scope_for program variables q stand) b kind.Bool) before → (es : source.Exprs) →
      Holds (Found (λ b. SpecHas (scope_for program variables q stand) b kind.Bool)) (conjuncts stand before es)
  conjuncts-have program variables q stand fits before has source.no_expr = has
  conjuncts-have program variables q stand fits before has (source.and_expr e es) =
      let s = scope_for program variables q stand in
      holds-then (Found (λ b. SpecHas s b kind.Bool)) (λ (v : Stated). SpecHas s v.node kind.Bool) (states stand e >>= stated (place_of e) >>= as_boolean (place_of e)) _
      (boolean-has s (place_of e) _ (value-has s (place_of e) (states stand e) (states-has program variables q stand fits e))) λ v is.
      conjuncts-have program variables q stand fits (Some (conjoined before v.node)) (conjoined-has s before v.node has is) es

pub boolean-states : (program : Program) (variables : List SlotKind) (stand : Stand) → StandFits program variables 0 stand → (e : source.Expr) →
    Holds (λ e. SpecHas (scope_for program variables 0 stand) e kind.Bool) (states_boolean stand e)
unfolding states_boolean
boolean-states program variables stand fits e =
    let s = scope_for program variables 0 stand in
    holds-then (λ e. SpecHas s e kind.Bool) (λ (v : Stated). SpecHas s v.node kind.Bool) (states stand e >>= stated (place_of e) >>= as_boolean (place_of e)) _
    (boolean-has s (place_of e) _ (value-has s (place_of e) (states stand e) (states-has program variables 0 stand fits e))) λ v is. is

pub reference-states : (program : Program) (variables : List SlotKind) (stand : Stand) → StandFits program variables 0 stand → (e : source.Expr) →
    Holds (λ e. SpecHas (scope_for program variables 0 stand) e kind.Ref) (states_reference stand e)
unfolding states_reference
reference-states program variables stand fits e =
    let s = scope_for program variables 0 stand in
    holds-then (λ e. SpecHas s e kind.Ref) (λ (v : Stated). SpecHas s v.node kind.Ref) (states stand e >>= stated (place_of e) >>= as_reference (place_of e)) _
    (reference-has s (place_of e) _ (value-has s (place_of e) (states stand e) (states-has program variables 0 stand fits e))) λ v is. is
