-- Operators, the conditional and assignment are right in the program where their operands are (JLS 15.14 to 15.26).
use Rattle.std.proofs.Common.{◌≡◌, ◌&&◌, ◌||◌, ℤ, pos, negsuc, Bool, true, false, Option, Some, None, refl, sym, ◌∙◌}
use Rattle.jr_base.specs.declared.number.Span.{Span}
use Rattle.jr_base.specs.declared.action.Elem.TheVariants as elem
use Rattle.jr_base.specs.declared.kind.SlotKind.{SlotKind}
use Rattle.jr_base.specs.declared.kind.SlotKind.TheVariants as kinds
use Rattle.jr_arith.specs.Arithmetic.{fits}
use Rattle.jr_arith.specs.Kinds.{kind_of_width, left_kind, result_kind}
use Rattle.jr_arith.specs.declared.operator.Width.{Width}
use Rattle.jr_arith.specs.declared.operator.Width.TheVariants as width
use Rattle.jr_arith.specs.declared.operator.Arithmetic.{Arithmetic}
use Rattle.jr_arith.specs.declared.operator.Arithmetic.TheVariants as arithmetic
use Rattle.jr_arith.specs.declared.operator.Bitwise.{Bitwise}
use Rattle.jr_arith.specs.declared.operator.Bitwise.TheVariants as bitwise
use Rattle.jr_arith.specs.declared.operator.Shift.{Shift}
use Rattle.jr_arith.specs.declared.operator.Shift.TheVariants as shift
use Rattle.jr_arith.specs.declared.operator.Binary.{Binary as BinaryOp}
use Rattle.jr_arith.specs.declared.operator.Binary.TheVariants as binary
use Rattle.jr_ast.specs.declared.operator.Prefix.{Prefix}
use Rattle.jr_ast.specs.declared.operator.Prefix.TheVariants as prefixes
use Rattle.jr_ast.specs.declared.operator.Postfix.{Postfix}
use Rattle.jr_ast.specs.declared.operator.Postfix.TheVariants as postfixes
use Rattle.jr_ast.specs.declared.operator.Infix.{Infix}
use Rattle.jr_ast.specs.declared.operator.AssignOp.{AssignOp}
use Rattle.jr_ast.specs.declared.operator.AssignOp.TheVariants as assign
use Rattle.jr_program.specs.Programs.{Program, Expr}
use Rattle.jr_program.specs.WellFormed.{Scope as Place, HasKind, CompoundFits}
use Rattle.jr_typing_rules.specs.declared.words.ValueType.{ValueType}
use Rattle.jr_typing_rules.specs.declared.words.ValueType.TheVariants as type
use Rattle.jr_typing_rules.specs.declared.words.Joint.{Joint}
use Rattle.jr_typing_rules.specs.declared.words.Joint.TheVariants as joint
use Rattle.jr_typing_rules.specs.declared.words.Operation.{Operation}
use Rattle.jr_typing_rules.specs.declared.words.Single.{Single}
use Rattle.jr_typing_rules.specs.declared.words.Single.TheVariants.{Kept, Applied}
use Rattle.jr_typing_rules.specs.Types.{kind_of, is_same, is_number, is_reference, width_of, number, long, int}
use Rattle.jr_typing_rules.specs.Names.{Names, is_assignable}
use Rattle.std.specs.Option.{option_map}
use Rattle.jr_typing_rules.specs.Denotations.{Denotation, Value, Target, brought, value_of, variable_of}
use Rattle.jr_typing_rules.specs.Operators.{booleans, promoted, on_numbers, calculates, shifts, on_booleans, on_bits, operation, joined, infixed, postfix_step, single, applied, operated, stepped_before, stepped_behind, wider, conditional, operator_of, strict, is_long_to_int, compound, assigned_by, assigned}
use Rattle.jr_typing_rules.specs.Expressions.{stepped_or_operated, prefixed}
use Rattle.jr_typing_rules.specs.Agreement.{IsTypeIn}
use Rattle.jr_typing_rules.proofs.Holding.{Holds, holds-then, holds-require, holds-found}
use Rattle.jr_typing_rules.proofs.Known.{both}
use Rattle.jr_typing_rules.proofs.OperatorKinds.{assignable-brings, width-kind, same-kind, JointFits, OperationFits, operation-fits, SingleFits, single-fits, BothBring, wider-fits}
use Rattle.jr_typing_rules.proofs.Denoted.{ValueRight, TargetRight, Right, value-right, target-right}
use Rattle.jr_typing_rules.proofs.Called.{brought-has}
use Rattle.jr_typing_rules.proofs.Found.{Found, found-some, found-map, found-if, found-else}

-- ---- types that speak of no class

pub number-in : (program : Program) (w : Width) → IsTypeIn program (number w)
number-in program width.Int = tt
number-in program width.Long = tt

-- a type of numbers or booleans
plain-in : (program : Program) (t : ValueType) → (kind_of t ≡ kinds.Ref → ⊥) → IsTypeIn program t
plain-in program type.Null plain = tt
plain-in program (type.ArrayOf e) plain = absurd (plain refl)
plain-in program (type.Single (elem.Class c)) plain = absurd (plain refl)
plain-in program (type.Single elem.Int) plain = tt
plain-in program (type.Single elem.Long) plain = tt
plain-in program (type.Single elem.Bool) plain = tt
plain-in program (type.Single elem.Object) plain = tt
plain-in program (type.Single elem.Thread) plain = tt
plain-in program (type.Single elem.Runnable) plain = tt

width-plain : (w : Width) → kind_of_width w ≡ kinds.Ref → ⊥
width-plain width.Int e = absurd (cc)
width-plain width.Long e = absurd (cc)

result-plain : (op : BinaryOp) → result_kind op ≡ kinds.Ref → ⊥
result-plain (binary.Arithmetic o w) e = width-plain w e
result-plain (binary.Bitwise o w) e = width-plain w e
result-plain (binary.Shift o w) e = width-plain w e
result-plain (binary.Compare o w) e = absurd (cc)
result-plain binary.BothTrue e = absurd (cc)
result-plain binary.EitherTrue e = absurd (cc)
result-plain binary.Differ e = absurd (cc)
result-plain binary.Agree e = absurd (cc)
result-plain binary.SameReference e = absurd (cc)
result-plain binary.OtherReference e = absurd (cc)

boolean-plain : (k : SlotKind) → k ≡ kinds.Bool → k ≡ kinds.Ref → ⊥
boolean-plain k is e = let no_more : kinds.Bool ≡ kinds.Ref = sym is ∙ e in absurd (cc)

joint-plain : (j : Joint) (l r k : SlotKind) → JointFits j l r k → k ≡ kinds.Ref → ⊥
joint-plain (joint.Strict op) l r k fit e = result-plain op (sym fit.2 ∙ e)
joint-plain joint.And l r k fit e = boolean-plain k fit.2 e
joint-plain joint.Or l r k fit e = boolean-plain k fit.2 e
joint-plain joint.Implies l r k fit e = boolean-plain k fit.2 e
joint-plain joint.ImpliedBy l r k fit e = boolean-plain k fit.2 e

-- ---- two operands

joined-has : (s : Place) (j : Joint) (l r k : SlotKind) (a b : Expr) → JointFits j l r k → HasKind s a l → HasKind s b r → Found (λ e. HasKind s e k) (joined j a b)
joined-has s (joint.Strict op) l r k a b fit left right = (rw fit.0 at left, rw fit.1 at right, fit.2)
joined-has s joint.And l r k a b fit left right = (rw fit.0 at left, rw fit.1 at right, fit.2)
joined-has s joint.Or l r k a b fit left right = (rw fit.0 at left, rw fit.1 at right, fit.2)
joined-has s joint.Implies l r k a b fit left right = tt
joined-has s joint.ImpliedBy l r k a b fit left right = tt

pub infixed-right : (s : Place) (names : Names) (at : Span) (op : Infix) (a b : Value) → ValueRight s a → ValueRight s b → Holds (Right s) (infixed names at op a b)
infixed-right s names at op a b left right =
    holds-found (Right s) (operation names op a.of b.of) _ _ λ (o : Operation) found.
    let fit = found-some (OperationFits a.of b.of) (operation names op a.of b.of) o (operation-fits names op a.of b.of) found in
    let one = brought a.of o.left a.node in
    let two = brought b.of o.right b.node in
    holds-found (Right s) (joined o.joint one two) _ _ λ e is. (
      found-some (λ (e : Expr). HasKind s e (kind_of o.of)) (joined o.joint one two) e
          (joined-has s o.joint (kind_of o.left) (kind_of o.right) (kind_of o.of) one two fit.joint
          (brought-has s a.of o.left a.node fit.left left.0) (brought-has s b.of o.right b.node fit.right right.0)) is,
      plain-in s.program o.of (joint-plain o.joint (kind_of o.left) (kind_of o.right) (kind_of o.of) fit.joint),
    )

-- ---- one operand

applied-has : (s : Place) (op : Single) (v : Value) → SingleFits v.of op → ValueRight s v → HasKind s (applied op v.node) (kind_of v.of)
applied-has s Kept v fit right = right.0
applied-has s (Applied op) v fit right = (rw fit at right.0, fit)

operated-right : (s : Place) (at : Span) (op : Prefix) (v : Value) → ValueRight s v → Holds (Right s) (operated at op v)
operated-right s at op v right =
    holds-found (Right s) (single op v.of) _ _ λ (o : Single) found.
    (applied-has s o v (found-some (SingleFits v.of) (single op v.of) o (single-fits op v.of) found) right, right.1)

stepped-before-right : (s : Place) (at : Span) (by : ℤ) (x : Target) → ((w : Width) → fits w by ≡ true) → TargetRight s x → Holds (Right s) (stepped_before at by x)
stepped-before-right s at by x small right =
    holds-found (Right s) (width_of x.of) _ _ λ (w : Width) found. ((right.0, width-kind w x.of found, small w), right.1)

pub stepped-behind-right : (s : Place) (at : Span) (by : ℤ) (x : Target) → ((w : Width) → fits w by ≡ true) → TargetRight s x → Holds (Right s) (stepped_behind at by x)
stepped-behind-right s at by x small right =
    holds-found (Right s) (width_of x.of) _ _ λ (w : Width) found. ((right.0, width-kind w x.of found, small w), right.1)

one-fits : (w : Width) → fits w (pos 1) ≡ true
one-fits width.Int = refl
one-fits width.Long = refl

minus-one-fits : (w : Width) → fits w (negsuc 0) ≡ true
minus-one-fits width.Int = refl
minus-one-fits width.Long = refl

pub postfix-fits : (op : Postfix) (w : Width) → fits w (postfix_step op) ≡ true
postfix-fits postfixes.Increment w = one-fits w
postfix-fits postfixes.Decrement w = minus-one-fits w

on-value : (s : Place) (at operand : Span) (op : Prefix) (d : Denotation) → Right s d → Holds (Right s) (stepped_or_operated at operand op None d)
on-value s at operand op d right =
    holds-then (Right s) (ValueRight s) (value_of operand d) _ (value-right s operand d right) λ v has. operated-right s at op v has

on-variable : (s : Place) (at operand : Span) (op : Prefix) (by : ℤ) (d : Denotation) → ((w : Width) → fits w by ≡ true) → Right s d →
    Holds (Right s) (stepped_or_operated at operand op (Some by) d)
on-variable s at operand op by d small right =
    holds-then (Right s) (TargetRight s) (variable_of operand d) _ (target-right s operand d right) λ x has. stepped-before-right s at by x small has

pub prefixed-right : (s : Place) (at operand : Span) (op : Prefix) (d : Denotation) → Right s d → Holds (Right s) (prefixed at operand op d)
prefixed-right s at operand prefixes.Increment d right = on-variable s at operand prefixes.Increment (pos 1) d one-fits right
prefixed-right s at operand prefixes.Decrement d right = on-variable s at operand prefixes.Decrement (negsuc 0) d minus-one-fits right
prefixed-right s at operand prefixes.Negate d right = on-value s at operand prefixes.Negate d right
prefixed-right s at operand prefixes.Plus d right = on-value s at operand prefixes.Plus d right
prefixed-right s at operand prefixes.Complement d right = on-value s at operand prefixes.Complement d right
prefixed-right s at operand prefixes.Not d right = on-value s at operand prefixes.Not d right

-- ---- the conditional operator

wider-in : (program : Program) (names : Names) (a b : ValueType) → IsTypeIn program a → IsTypeIn program b → Found (IsTypeIn program) (wider names a b)
unfolding wider
wider-in program names a b left right =
    let Q = IsTypeIn program in
    found-else Q (option_map number (promoted a b)) _ (found-map Q number (promoted a b) λ w e. number-in program w)
    (found-if Q (booleans a b) _ _ (λ is. tt)
    (found-if Q (is_reference a && is_reference b) _ _ (λ is.
    found-if Q (is_assignable names b a) _ _ (λ may. left) (found-if Q (is_assignable names a b) _ _ (λ may. right) tt)) tt))

pub conditional-right : (s : Place) (names : Names) (at : Span) (c a b : Value) → HasKind s c.node kinds.Bool → ValueRight s a → ValueRight s b → Holds (Right s) (conditional names at c a b)
conditional-right s names at c a b condition left right =
    holds-found (Right s) (wider names a.of b.of) _ _ λ (t : ValueType) found.
    let bring = found-some (BothBring a.of b.of) (wider names a.of b.of) t (wider-fits names a.of b.of) found in (
      (condition, brought-has s a.of t a.node bring.0 left.0, brought-has s b.of t b.node bring.1 right.0),
      found-some (IsTypeIn s.program) (wider names a.of b.of) t (wider-in s.program names a.of b.of left.1 right.1) found,
    )

-- ---- assignment

-- the operator's result has the kind of its left operand
abbrev KeepsKind : Joint → Type 0
KeepsKind (joint.Strict op) = left_kind op ≡ result_kind op
KeepsKind _ = Unit {0}

abbrev Keeps : Operation → Type 0
Keeps o = KeepsKind o.joint

calculating : (op : Arithmetic) (a b : ValueType) → Found Keeps (calculates op a b)
calculating op a b = found-map Keeps _ (promoted a b) λ w e. refl

shifting : (op : Shift) (a b : ValueType) → Found Keeps (shifts op a b)
shifting op a b = found-if Keeps (is_number b) _ _ (λ is. found-map Keeps _ (width_of a) λ w e. refl) tt

on-bits : (op : Bitwise) (on_boolean : BinaryOp) (a b : ValueType) → left_kind on_boolean ≡ result_kind on_boolean → Found Keeps (on_bits op on_boolean a b)
on-bits op on_boolean a b keeps =
    found-else Keeps (on_numbers (binary.Bitwise op) number a b) (on_booleans (joint.Strict on_boolean) a b) (found-map Keeps _ (promoted a b) λ w e. refl)
    (found-if Keeps (booleans a b) _ _ (λ is. keeps) tt)

-- so does each operator of a compound assignment
compound-keeps : (names : Names) (op : AssignOp) (a b : ValueType) → Found (λ x. Found Keeps (operation names x a b)) (operator_of op)
unfolding operation
compound-keeps names assign.Assign a b = tt
compound-keeps names assign.Add a b = calculating arithmetic.Add a b
compound-keeps names assign.Subtract a b = calculating arithmetic.Subtract a b
compound-keeps names assign.Multiply a b = calculating arithmetic.Multiply a b
compound-keeps names assign.Divide a b = calculating arithmetic.Divide a b
compound-keeps names assign.Remainder a b = calculating arithmetic.Remainder a b
compound-keeps names assign.BitAnd a b = on-bits bitwise.And binary.BothTrue a b refl
compound-keeps names assign.BitOr a b = on-bits bitwise.Or binary.EitherTrue a b refl
compound-keeps names assign.BitXor a b = on-bits bitwise.Xor binary.Differ a b refl
compound-keeps names assign.ShiftLeft a b = shifting shift.Left a b
compound-keeps names assign.ShiftRight a b = shifting shift.Right a b
compound-keeps names assign.ShiftRightUnsigned a b = shifting shift.RightUnsigned a b

-- the result goes to a variable of that type
narrowing : (op : BinaryOp) (from to : ValueType) → left_kind op ≡ result_kind op → kind_of from ≡ result_kind op → (is_same from to || is_long_to_int from to) ≡ true →
    CompoundFits (is_long_to_int from to) op (kind_of to)
narrowing op from to keeps result_is fit = by (is_long_to_int from to) refl fit
  where
    by : (b : Bool) → is_long_to_int from to ≡ b → (is_same from to || b) ≡ true → CompoundFits b op (kind_of to)
    by true is e =
        let same = both (is_same from long) (is_same to int) is in
        let result_long : result_kind op ≡ kinds.Long = sym result_is ∙ same-kind from long same.0 in
        (same-kind to int same.1, keeps ∙ result_long, result_long)
    by false is e =
        let result_to : result_kind op ≡ kind_of to = sym result_is ∙ same-kind from to (only (is_same from to) e) in
        (keeps ∙ result_to, result_to)
      where
        only : (b : Bool) → (b || false) ≡ true → b ≡ true
        only true e = refl
        only false e = absurd (cc)

strict-is : (j : Joint) (b : BinaryOp) → strict j ≡ Some b → j ≡ joint.Strict b
strict-is (joint.Strict op) b e = cc
strict-is joint.And b e = absurd (cc)
strict-is joint.Or b e = absurd (cc)
strict-is joint.Implies b e = absurd (cc)
strict-is joint.ImpliedBy b e = absurd (cc)

by-right : (s : Place) (names : Names) (at : Span) (op : Infix) (x : Target) (v : Value) → Found Keeps (operation names op x.of v.of) → TargetRight s x → ValueRight s v →
    Holds (Right s) (assigned_by names at op x v)
unfolding compound
by-right s names at op x v keep target right =
    let P = λ (o : Operation). OperationFits x.of v.of o × Keeps o × ((is_same o.of x.of || is_long_to_int o.of x.of) ≡ true) in
    holds-then (Right s) P (compound names at op x.of v.of) _
    (holds-found P (operation names op x.of v.of) _ _ λ (o : Operation) found.
    holds-require P (is_same o.of x.of || is_long_to_int o.of x.of) _ _ λ may. (
      found-some (OperationFits x.of v.of) (operation names op x.of v.of) o (operation-fits names op x.of v.of) found,
      found-some Keeps (operation names op x.of v.of) o keep found,
      may,
    )) λ (o : Operation) fit.
    holds-found (Right s) (strict o.joint) _ _ λ (b : BinaryOp) is.
    let same = strict-is o.joint b is in
    let kinds_fit = rw same at fit.0.joint in
    let keeps = rw same at fit.1 in
    let value_has = brought-has s v.of o.right v.node fit.0.right right.0 in
    ((target.0, rw kinds_fit.1 at value_has, narrowing b o.of x.of keeps kinds_fit.2 fit.2), target.1)

pub assigned-right : (s : Place) (names : Names) (at value_at : Span) (op : AssignOp) (x : Target) (v : Value) → TargetRight s x → ValueRight s v →
    Holds (Right s) (assigned names at value_at (operator_of op) x v)
assigned-right s names at value_at op x v target right = by (operator_of op) (compound-keeps names op x.of v.of)
  where
    by : (o : Option Infix) → Found (λ i. Found Keeps (operation names i x.of v.of)) o → Holds (Right s) (assigned names at value_at o x v)
    by (Some i) keep = by-right s names at i x v keep target right
    by None keep =
        holds-require (Right s) (is_assignable names v.of x.of) _ _ λ may. ((target.0, brought-has s v.of x.of v.node (assignable-brings names v.of x.of may) right.0), target.1)
