-- The kinds of operands and results, decided on types alone (JLS 5.1.2, 5.6.2, 15.15 to 15.26).
use Rattle.std.proofs.Common.{◌≡◌, ◌&&◌, ◌||◌, Bool, true, false, Option, Some, None, refl, sym, ◌∙◌}
use Rattle.std.specs.Option.{option_map}
use Rattle.jr_base.specs.declared.action.Elem.{Elem}
use Rattle.jr_base.specs.declared.action.Elem.TheVariants as elem
use Rattle.jr_base.specs.declared.kind.SlotKind.{SlotKind}
use Rattle.jr_base.specs.declared.kind.SlotKind.TheVariants as kind
use Rattle.jr_arith.specs.Kinds.{kind_of_element, kind_of_width, kind_converted, unary_kind, left_kind, right_kind, result_kind}
use Rattle.jr_arith.specs.declared.operator.Width.{Width}
use Rattle.jr_arith.specs.declared.operator.Width.TheVariants as width
use Rattle.jr_arith.specs.declared.operator.Arithmetic.{Arithmetic}
use Rattle.jr_arith.specs.declared.operator.Arithmetic.TheVariants as arithmetic
use Rattle.jr_arith.specs.declared.operator.Bitwise.{Bitwise}
use Rattle.jr_arith.specs.declared.operator.Bitwise.TheVariants as bitwise
use Rattle.jr_arith.specs.declared.operator.Shift.{Shift}
use Rattle.jr_arith.specs.declared.operator.Shift.TheVariants as shift
use Rattle.jr_arith.specs.declared.operator.Comparison.{Comparison}
use Rattle.jr_arith.specs.declared.operator.Comparison.TheVariants as comparison
use Rattle.jr_arith.specs.declared.operator.Binary.{Binary as BinaryOp}
use Rattle.jr_arith.specs.declared.operator.Binary.TheVariants as binary
use Rattle.jr_ast.specs.declared.operator.Prefix.{Prefix}
use Rattle.jr_ast.specs.declared.operator.Prefix.TheVariants as prefixes
use Rattle.jr_ast.specs.declared.operator.Infix.{Infix}
use Rattle.jr_ast.specs.declared.operator.Infix.TheVariants as infixes
use Rattle.jr_typing_rules.specs.declared.words.ValueType.{ValueType}
use Rattle.jr_typing_rules.specs.declared.words.ValueType.TheVariants as type
use Rattle.jr_typing_rules.specs.declared.words.Joint.{Joint}
use Rattle.jr_typing_rules.specs.declared.words.Joint.TheVariants as joint
use Rattle.jr_typing_rules.specs.declared.words.Operation.{Operation}
use Rattle.jr_typing_rules.specs.declared.words.Single.{Single}
use Rattle.jr_typing_rules.specs.declared.words.Single.TheVariants.{Kept, Applied}
use Rattle.jr_typing_rules.specs.Types.{is_same_elem, is_same, is_int, width_of, is_number, number, is_boolean, is_reference, int, boolean, kind_of, width_to}
use Rattle.jr_typing_rules.specs.Names.{Names, and_then, is_thread, is_runnable, widens, is_null, is_int_to_long, is_assignable}
use Rattle.jr_typing_rules.specs.Operators.{booleans, references, wider_width, promoted, on_numbers, calculates, compares, shifts, on_booleans, on_bits, on_references, on_equals, operation, single, wider}
use Rattle.jr_typing_rules.proofs.Known.{both}
use Rattle.jr_typing_rules.proofs.Found.{Found, found-map, found-if, found-else}

-- ---- one type brought to another

abbrev pub BringsBy : Option Width → ValueType → ValueType → Type 0
BringsBy None from to = kind_of from ≡ kind_of to
BringsBy (Some w) from to = (kind_of from ≡ kind_converted w) × (kind_of to ≡ kind_of_width w)

-- a value of the first type, converted if need be, has the kind of the second
abbrev pub Brings : ValueType → ValueType → Type 0
Brings from to = BringsBy (width_to from to) from to

-- a conversion changes the kind
brings-same : (a b : ValueType) → kind_of a ≡ kind_of b → Brings a b
brings-same (type.Single elem.Int) (type.Single elem.Long) e = absurd (cc)
brings-same (type.Single elem.Long) (type.Single elem.Int) e = absurd (cc)
brings-same a b e = e

pub brings-self : (t : ValueType) → Brings t t
brings-self t = brings-same t t refl

pub number-kind : (w : Width) → kind_of (number w) ≡ kind_of_width w
number-kind width.Int = refl
number-kind width.Long = refl

brings-number : (w v : Width) (t : ValueType) → width_of t ≡ Some v → Brings t (number w)
brings-number width.Int v (type.Single elem.Int) e = refl
brings-number width.Long v (type.Single elem.Int) e = (refl, refl)
brings-number width.Int v (type.Single elem.Long) e = (refl, refl)
brings-number width.Long v (type.Single elem.Long) e = refl
brings-number w v t e = absurd (cc)

number-brings : (w : Width) (t : ValueType) → is_number t ≡ true → Brings t (number w)
number-brings width.Int (type.Single elem.Int) e = refl
number-brings width.Long (type.Single elem.Int) e = (refl, refl)
number-brings width.Int (type.Single elem.Long) e = (refl, refl)
number-brings width.Long (type.Single elem.Long) e = refl
number-brings w t e = absurd (cc)

pub boolean-kind : (t : ValueType) → is_boolean t ≡ true → kind_of t ≡ kind.Bool
boolean-kind (type.Single elem.Bool) e = refl
boolean-kind t e = absurd (cc)

pub int-kind : (t : ValueType) → is_int t ≡ true → kind_of t ≡ kind.Int
int-kind (type.Single elem.Int) e = refl
int-kind t e = absurd (cc)

pub reference-kind : (t : ValueType) → is_reference t ≡ true → kind_of t ≡ kind.Ref
reference-kind (type.Single elem.Int) e = absurd (cc)
reference-kind (type.Single elem.Long) e = absurd (cc)
reference-kind (type.Single elem.Bool) e = absurd (cc)
reference-kind t e = refl

pub width-kind : (w : Width) (t : ValueType) → width_of t ≡ Some w → kind_of t ≡ kind_of_width w
width-kind width.Int (type.Single elem.Int) e = refl
width-kind width.Long (type.Single elem.Long) e = refl
width-kind w t e = absurd (cc)

pub element-kind : (e : Elem) → kind_of (type.Single e) ≡ kind_of_element e
element-kind elem.Int = refl
element-kind elem.Long = refl
element-kind elem.Bool = refl
element-kind elem.Object = refl
element-kind elem.Thread = refl
element-kind elem.Runnable = refl
element-kind (elem.Class c) = refl

-- ---- where a value may stand (JLS 5.2)

same-element : (e f : Elem) → is_same_elem e f ≡ true → kind_of (type.Single e) ≡ kind_of (type.Single f)
same-element elem.Int elem.Int is = refl
same-element elem.Long elem.Long is = refl
same-element elem.Bool elem.Bool is = refl
same-element elem.Object elem.Object is = refl
same-element elem.Thread elem.Thread is = refl
same-element elem.Runnable elem.Runnable is = refl
same-element (elem.Class c) (elem.Class d) is = refl
same-element e f is = absurd (cc)

pub same-kind : (a b : ValueType) → is_same a b ≡ true → kind_of a ≡ kind_of b
same-kind type.Null type.Null is = refl
same-kind (type.Single e) (type.Single f) is = same-element e f is
same-kind (type.ArrayOf e) (type.ArrayOf f) is = refl
same-kind a b is = absurd (cc)

int-to-long : (a b : ValueType) → is_int_to_long a b ≡ true → Brings a b
int-to-long (type.Single elem.Int) (type.Single elem.Long) is = (refl, refl)
int-to-long a b is = absurd (cc)

null-kind : (t : ValueType) → is_null t ≡ true → kind_of t ≡ kind.Ref
null-kind type.Null is = refl
null-kind t is = absurd (cc)

thread-kind : (names : Names) (t : ValueType) → is_thread names t ≡ true → kind_of t ≡ kind.Ref
unfolding is_thread
thread-kind names (type.Single elem.Thread) is = refl
thread-kind names (type.Single (elem.Class c)) is = refl
thread-kind names t is = absurd (cc)

runnable-kind : (names : Names) (t : ValueType) → is_runnable names t ≡ true → kind_of t ≡ kind.Ref
unfolding is_runnable
runnable-kind names (type.Single elem.Runnable) is = refl
runnable-kind names (type.Single (elem.Class c)) is = refl
runnable-kind names t is = absurd (cc)

widens-kind : (names : Names) (a b : ValueType) → widens names a b ≡ true → kind_of a ≡ kind_of b
widens-kind names a (type.Single elem.Object) is = reference-kind a is
widens-kind names a (type.Single elem.Thread) is = thread-kind names a is
widens-kind names a (type.Single elem.Runnable) is = runnable-kind names a is
widens-kind names a b is = absurd (cc)

-- one of two tests holds
either : {P : Type 0} (a b : Bool) → (a || b) ≡ true → (a ≡ true → P) → (b ≡ true → P) → P
either true b e left right = left refl
either false b e left right = right e

pub assignable-brings : (names : Names) (a b : ValueType) → is_assignable names a b ≡ true → Brings a b
unfolding is_assignable
assignable-brings names a b is =
    either (is_same a b) _ is (λ same. brings-same a b (same-kind a b same)) λ rest.
    either (is_int_to_long a b) _ rest (int-to-long a b) λ rest.
    either (is_null a && is_reference b) _ rest
    (λ null. let halves = both (is_null a) (is_reference b) null in brings-same a b (null-kind a halves.0 ∙ sym (reference-kind b halves.1)))
    λ wide. brings-same a b (widens-kind names a b wide)

-- ---- operators with two operands

-- how the kinds of two operands and of their result hang together
abbrev pub JointFits : Joint → SlotKind → SlotKind → SlotKind → Type 0
JointFits (joint.Strict op) left right result_is = (left ≡ left_kind op) × (right ≡ right_kind op) × (result_is ≡ result_kind op)
JointFits joint.And left right result_is = (left ≡ kind.Bool) × (right ≡ kind.Bool) × (result_is ≡ kind.Bool)
JointFits joint.Or left right result_is = (left ≡ kind.Bool) × (right ≡ kind.Bool) × (result_is ≡ kind.Bool)
JointFits joint.Implies left right result_is = (left ≡ kind.Bool) × (right ≡ kind.Bool) × (result_is ≡ kind.Bool)
JointFits joint.ImpliedBy left right result_is = (left ≡ kind.Bool) × (right ≡ kind.Bool) × (result_is ≡ kind.Bool)

-- the operands can be brought to what the operation asks
pub record OperationFits (a b : ValueType) (o : Operation) : Type 0 where
  pub left : Brings a o.left
  pub right : Brings b o.right
  pub joint : JointFits o.joint (kind_of o.left) (kind_of o.right) (kind_of o.of)

are-numbers : (a b : ValueType) (w : Width) → promoted a b ≡ Some w → Brings a (number w) × Brings b (number w)
are-numbers a b w e = by (width_of a) (width_of b) refl refl e
  where
    by : (u v : Option Width) → width_of a ≡ u → width_of b ≡ v → and_then u (λ (x : Width). option_map (wider_width x) v) ≡ Some w → Brings a (number w) × Brings b (number w)
    by (Some x) (Some y) of_a of_b e = (brings-number w x a of_a, brings-number w y b of_b)
    by (Some x) None of_a of_b e = absurd (cc)
    by None v of_a of_b e = absurd (cc)

-- both operands and the result have the kinds of the operator at that width
abbrev AtWidth : (Width → BinaryOp) → (Width → ValueType) → Width → Type 0
AtWidth op of w = JointFits (joint.Strict (op w)) (kind_of (number w)) (kind_of (number w)) (kind_of (of w))

on-numbers : (op : Width → BinaryOp) (of : Width → ValueType) (a b : ValueType) → ((w : Width) → AtWidth op of w) → Found (OperationFits a b) (on_numbers op of a b)
on-numbers op of a b at_width =
    found-map (OperationFits a b) (λ (w : Width). record { joint = joint.Strict (op w); left = number w; right = number w; of = of w }) (promoted a b) λ w e.
    let brings = are-numbers a b w e in record { left = brings.0; right = brings.1; joint = at_width w }

on-booleans : (j : Joint) (a b : ValueType) → JointFits j kind.Bool kind.Bool kind.Bool → Found (OperationFits a b) (on_booleans j a b)
on-booleans j a b fits =
    found-if (OperationFits a b) (booleans a b) _ _ (λ is.
    let halves = both (is_boolean a) (is_boolean b) is in
    record { left = brings-same a boolean (boolean-kind a halves.0); right = brings-same b boolean (boolean-kind b halves.1); joint = fits }) tt

on-references : (names : Names) (op : BinaryOp) (a b : ValueType) → JointFits (joint.Strict op) kind.Ref kind.Ref kind.Bool → Found (OperationFits a b) (on_references names op a b)
on-references names op a b fits =
    found-if (OperationFits a b) (references names a b) _ _ (λ is.
    let refs = (both (is_reference a && is_reference b) (is_assignable names a b || is_assignable names b a) is).0 in
    let halves = both (is_reference a) (is_reference b) refs in
    record { left = brings-self a; right = brings-self b; joint = rw (reference-kind a halves.0, reference-kind b halves.1) fits }) tt

by-width : (op : Width → BinaryOp) (of : Width → ValueType) → AtWidth op of width.Int → AtWidth op of width.Long → (w : Width) → AtWidth op of w
by-width op of int_fits long_fits width.Int = int_fits
by-width op of int_fits long_fits width.Long = long_fits

calculating : (op : Arithmetic) (a b : ValueType) → Found (OperationFits a b) (calculates op a b)
calculating op a b = on-numbers (binary.Arithmetic op) number a b (by-width (binary.Arithmetic op) number (refl, refl, refl) (refl, refl, refl))

comparing : (op : Comparison) (a b : ValueType) → Found (OperationFits a b) (compares op a b)
comparing op a b = on-numbers (binary.Compare op) (λ w. boolean) a b (by-width (binary.Compare op) (λ w. boolean) (refl, refl, refl) (refl, refl, refl))

shifting : (op : Shift) (a b : ValueType) → Found (OperationFits a b) (shifts op a b)
shifting op a b =
    found-if (OperationFits a b) (is_number b) _ _ (λ is.
    found-map (OperationFits a b) (λ (w : Width). record { joint = joint.Strict (binary.Shift op w); left = number w; right = int; of = number w }) (width_of a) λ w e.
    record { left = brings-number w w a e; right = number-brings width.Int b is; joint = (number-kind w, refl, number-kind w) }) tt

on-bits : (op : Bitwise) (on_boolean : BinaryOp) (a b : ValueType) → JointFits (joint.Strict on_boolean) kind.Bool kind.Bool kind.Bool →
    Found (OperationFits a b) (on_bits op on_boolean a b)
on-bits op on_boolean a b fits =
    found-else (OperationFits a b) (on_numbers (binary.Bitwise op) number a b) (on_booleans (joint.Strict on_boolean) a b)
    (on-numbers (binary.Bitwise op) number a b (by-width (binary.Bitwise op) number (refl, refl, refl) (refl, refl, refl)))
    (on-booleans (joint.Strict on_boolean) a b fits)

on-equals : (names : Names) (op : Comparison) (on_boolean on_reference : BinaryOp) (a b : ValueType) → JointFits (joint.Strict on_boolean) kind.Bool kind.Bool kind.Bool →
    JointFits (joint.Strict on_reference) kind.Ref kind.Ref kind.Bool → Found (OperationFits a b) (on_equals names op on_boolean on_reference a b)
on-equals names op on_boolean on_reference a b bools refs =
    found-else (OperationFits a b) (compares op a b) _ (comparing op a b)
    (found-else (OperationFits a b) (on_booleans (joint.Strict on_boolean) a b) (on_references names on_reference a b)
    (on-booleans (joint.Strict on_boolean) a b bools) (on-references names on_reference a b refs))

pub operation-fits : (names : Names) (op : Infix) (a b : ValueType) → Found (OperationFits a b) (operation names op a b)
unfolding operation
operation-fits names infixes.Add a b = calculating arithmetic.Add a b
operation-fits names infixes.Subtract a b = calculating arithmetic.Subtract a b
operation-fits names infixes.Multiply a b = calculating arithmetic.Multiply a b
operation-fits names infixes.Divide a b = calculating arithmetic.Divide a b
operation-fits names infixes.Remainder a b = calculating arithmetic.Remainder a b
operation-fits names infixes.ShiftLeft a b = shifting shift.Left a b
operation-fits names infixes.ShiftRight a b = shifting shift.Right a b
operation-fits names infixes.ShiftRightUnsigned a b = shifting shift.RightUnsigned a b
operation-fits names infixes.Less a b = comparing comparison.Less a b
operation-fits names infixes.LessEqual a b = comparing comparison.LessEqual a b
operation-fits names infixes.Greater a b = comparing comparison.Greater a b
operation-fits names infixes.GreaterEqual a b = comparing comparison.GreaterEqual a b
operation-fits names infixes.BitAnd a b = on-bits bitwise.And binary.BothTrue a b (refl, refl, refl)
operation-fits names infixes.BitXor a b = on-bits bitwise.Xor binary.Differ a b (refl, refl, refl)
operation-fits names infixes.BitOr a b = on-bits bitwise.Or binary.EitherTrue a b (refl, refl, refl)
operation-fits names infixes.Equal a b = on-equals names comparison.Equal binary.Agree binary.SameReference a b (refl, refl, refl) (refl, refl, refl)
operation-fits names infixes.NotEqual a b = on-equals names comparison.NotEqual binary.Differ binary.OtherReference a b (refl, refl, refl) (refl, refl, refl)
operation-fits names infixes.And a b = on-booleans joint.And a b (refl, refl, refl)
operation-fits names infixes.Or a b = on-booleans joint.Or a b (refl, refl, refl)
operation-fits names infixes.Implies a b = on-booleans joint.Implies a b (refl, refl, refl)
operation-fits names infixes.ImpliedBy a b = on-booleans joint.ImpliedBy a b (refl, refl, refl)
operation-fits names infixes.Equivalent a b = on-booleans (joint.Strict binary.Agree) a b (refl, refl, refl)
operation-fits names infixes.NotEquivalent a b = on-booleans (joint.Strict binary.Differ) a b (refl, refl, refl)

-- ---- one operand, and the conditional operator

-- the operator takes a value of that type, which is its result's too
abbrev pub SingleFits : ValueType → Single → Type 0
SingleFits t Kept = Unit {0}
SingleFits t (Applied op) = kind_of t ≡ unary_kind op

pub single-fits : (op : Prefix) (t : ValueType) → Found (SingleFits t) (single op t)
unfolding single
single-fits prefixes.Negate t = found-map (SingleFits t) _ (width_of t) λ w e. width-kind w t e
single-fits prefixes.Plus t = found-map (SingleFits t) _ (width_of t) λ w e. tt
single-fits prefixes.Complement t = found-map (SingleFits t) _ (width_of t) λ w e. width-kind w t e
single-fits prefixes.Not t = found-if (SingleFits t) (is_boolean t) _ _ (boolean-kind t) tt
single-fits prefixes.Increment t = tt
single-fits prefixes.Decrement t = tt

abbrev pub BothBring : ValueType → ValueType → ValueType → Type 0
BothBring a b t = Brings a t × Brings b t

pub wider-fits : (names : Names) (a b : ValueType) → Found (BothBring a b) (wider names a b)
unfolding wider
wider-fits names a b =
    let Q = BothBring a b in
    found-else Q (option_map number (promoted a b)) _ (found-map Q number (promoted a b) λ w e. are-numbers a b w e)
    (found-if Q (booleans a b) _ _ (λ is.
    let halves = both (is_boolean a) (is_boolean b) is in (brings-same a boolean (boolean-kind a halves.0), brings-same b boolean (boolean-kind b halves.1)))
    (found-if Q (is_reference a && is_reference b) _ _ (λ is.
    let halves = both (is_reference a) (is_reference b) is in
    let same : kind_of a ≡ kind_of b = reference-kind a halves.0 ∙ sym (reference-kind b halves.1) in
    found-if Q (is_assignable names b a) _ _ (λ fits. (brings-self a, brings-same b a (sym same)))
    (found-if Q (is_assignable names a b) _ _ (λ fits. (brings-same a b same, brings-self b)) tt)) tt))
