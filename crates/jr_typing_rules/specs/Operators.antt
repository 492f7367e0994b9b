-- The operators (JLS 15.14 to 15.26), and those of JML.
use Rattle.std.specs.Prelude.{ℕ, ◌+◌, nat_le, ℤ, pos, negsuc, neg_ℤ, Bool, true, false, cond, not, ◌&&◌, ◌||◌, Option, Some, None}
use Rattle.std.specs.Option.{option_map}
use Rattle.jr_base.specs.declared.number.Span.{Span}
use Rattle.jr_base.specs.declared.refusal.Refusal.TheVariants.{BigLiteral, Mismatch, NotHere}
use Rattle.jr_ast.specs.Expressions as source
use Rattle.jr_ast.specs.declared.literal.IntegerLiteral.{IntegerLiteral}
use Rattle.jr_ast.specs.declared.operator.Prefix.{Prefix}
use Rattle.jr_ast.specs.declared.operator.Prefix.TheVariants as prefixes
use Rattle.jr_ast.specs.declared.operator.Postfix.{Postfix}
use Rattle.jr_ast.specs.declared.operator.Postfix.TheVariants as postfixes
use Rattle.jr_ast.specs.declared.operator.Infix.{Infix}
use Rattle.jr_ast.specs.declared.operator.Infix.TheVariants as infixes
use Rattle.jr_ast.specs.declared.operator.AssignOp.{AssignOp}
use Rattle.jr_ast.specs.declared.operator.AssignOp.TheVariants as assign
use Rattle.jr_arith.specs.declared.operator.Width.{Width}
use Rattle.jr_arith.specs.declared.operator.Width.TheVariants as width
use Rattle.jr_arith.specs.declared.operator.Unary.TheVariants as unary
use Rattle.jr_arith.specs.declared.operator.Arithmetic.TheVariants as arithmetic
use Rattle.jr_arith.specs.declared.operator.Bitwise.{Bitwise}
use Rattle.jr_arith.specs.declared.operator.Bitwise.TheVariants as bitwise
use Rattle.jr_arith.specs.declared.operator.Shift.{Shift}
use Rattle.jr_arith.specs.declared.operator.Shift.TheVariants as shift
use Rattle.jr_arith.specs.declared.operator.Comparison.{Comparison}
use Rattle.jr_arith.specs.declared.operator.Comparison.TheVariants as comparison
use Rattle.jr_arith.specs.declared.operator.Arithmetic.{Arithmetic}
use Rattle.jr_arith.specs.declared.operator.Binary.{Binary as BinaryOp}
use Rattle.jr_arith.specs.declared.operator.Binary.TheVariants as binary
use Rattle.jr_program.specs.Programs.{Expr, Unary, Binary, And, Or, Choice, Assign, Compound, PrefixIncrement, PostfixIncrement}
use Rattle.jr_typing_rules.specs.declared.words.ValueType.{ValueType}
use Rattle.jr_typing_rules.specs.declared.words.Joint.{Joint}
use Rattle.jr_typing_rules.specs.declared.words.Joint.TheVariants as joint
use Rattle.jr_typing_rules.specs.declared.words.Operation.{Operation}
use Rattle.jr_typing_rules.specs.declared.words.Single.{Single}
use Rattle.jr_typing_rules.specs.declared.words.Single.TheVariants.{Kept, Applied}
use Rattle.jr_typing_rules.specs.Answers.{Typing, Good, ◌>>=◌, require, found}
use Rattle.jr_typing_rules.specs.Types.{is_boolean, is_reference, is_same, width_of, is_number, number, int, long, boolean}
use Rattle.jr_typing_rules.specs.Names.{Names, and_then, is_assignable}
use Rattle.jr_typing_rules.specs.Denotations.{Denotation, AValue, Value, Target, brought}

abbrev pub booleans : ValueType → ValueType → Bool
booleans a b = is_boolean a && is_boolean b

-- two references, of which one may stand for the other (JLS 15.21.3)
abbrev pub references : Names → ValueType → ValueType → Bool
references names a b = (is_reference a && is_reference b) && (is_assignable names a b || is_assignable names b a)

-- ---- numbers (JLS 5.6.2)

abbrev pub wider_width : Width → Width → Width
wider_width width.Int w = w
wider_width width.Long w = width.Long

-- the width that both operands are brought to
abbrev pub promoted : ValueType → ValueType → Option Width
promoted a b = and_then (width_of a) (λ (v : Width). option_map (wider_width v) (width_of b))

-- both operands are brought to their wider width
abbrev pub on_numbers : (Width → BinaryOp) → (Width → ValueType) → ValueType → ValueType → Option Operation
on_numbers op of a b = option_map (λ (w : Width). record { joint = joint.Strict (op w); left = number w; right = number w; of = of w }) (promoted a b)

abbrev pub calculates : Arithmetic → ValueType → ValueType → Option Operation
calculates op = on_numbers (binary.Arithmetic op) number

abbrev pub compares : Comparison → ValueType → ValueType → Option Operation
compares op = on_numbers (binary.Compare op) (λ w. boolean)

-- a shift is of its left operand's width, by an int distance (JLS 15.19)
abbrev pub shifts : Shift → ValueType → ValueType → Option Operation
shifts op a b = cond (is_number b) (option_map (λ (w : Width). record { joint = joint.Strict (binary.Shift op w); left = number w; right = int; of = number w }) (width_of a)) None

-- ---- booleans, and either

abbrev pub on_booleans : Joint → ValueType → ValueType → Option Operation
on_booleans j a b = cond (booleans a b) (Some (record { joint = j; left = boolean; right = boolean; of = boolean })) None

abbrev pub or_else : {A : Type 0} → Option A → Option A → Option A
or_else (Some x) other = Some x
or_else None other = other

-- two numbers or two booleans (JLS 15.22)
abbrev pub on_bits : Bitwise → BinaryOp → ValueType → ValueType → Option Operation
on_bits op on_boolean a b = or_else (on_numbers (binary.Bitwise op) number a b) (on_booleans (joint.Strict on_boolean) a b)

abbrev pub on_references : Names → BinaryOp → ValueType → ValueType → Option Operation
on_references names op a b = cond (references names a b) (Some (record { joint = joint.Strict op; left = a; right = b; of = boolean })) None

-- two numbers, two booleans or two references (JLS 15.21)
abbrev pub on_equals : Names → Comparison → BinaryOp → BinaryOp → ValueType → ValueType → Option Operation
on_equals names op on_boolean on_reference a b =
    or_else (compares op a b) (or_else (on_booleans (joint.Strict on_boolean) a b) (on_references names on_reference a b))

unfoldable pub operation : Names → Infix → ValueType → ValueType → Option Operation
operation names infixes.Add a b = calculates arithmetic.Add a b
operation names infixes.Subtract a b = calculates arithmetic.Subtract a b
operation names infixes.Multiply a b = calculates arithmetic.Multiply a b
operation names infixes.Divide a b = calculates arithmetic.Divide a b
operation names infixes.Remainder a b = calculates arithmetic.Remainder a b
operation names infixes.ShiftLeft a b = shifts shift.Left a b
operation names infixes.ShiftRight a b = shifts shift.Right a b
operation names infixes.ShiftRightUnsigned a b = shifts shift.RightUnsigned a b
operation names infixes.Less a b = compares comparison.Less a b
operation names infixes.LessEqual a b = compares comparison.LessEqual a b
operation names infixes.Greater a b = compares comparison.Greater a b
operation names infixes.GreaterEqual a b = compares comparison.GreaterEqual a b
operation names infixes.BitAnd a b = on_bits bitwise.And binary.BothTrue a b
operation names infixes.BitXor a b = on_bits bitwise.Xor binary.Differ a b
operation names infixes.BitOr a b = on_bits bitwise.Or binary.EitherTrue a b
operation names infixes.Equal a b = on_equals names comparison.Equal binary.Agree binary.SameReference a b
operation names infixes.NotEqual a b = on_equals names comparison.NotEqual binary.Differ binary.OtherReference a b
operation names infixes.And a b = on_booleans joint.And a b
operation names infixes.Or a b = on_booleans joint.Or a b
operation names infixes.Implies a b = on_booleans joint.Implies a b
operation names infixes.ImpliedBy a b = on_booleans joint.ImpliedBy a b
operation names infixes.Equivalent a b = on_booleans (joint.Strict binary.Agree) a b
operation names infixes.NotEquivalent a b = on_booleans (joint.Strict binary.Differ) a b

-- two operands that are joined; an implication stands in clauses alone
abbrev pub joined : Joint → Expr → Expr → Option Expr
joined (joint.Strict op) a b = Some (Binary op a b)
joined joint.And a b = Some (And a b)
joined joint.Or a b = Some (Or a b)
joined joint.Implies a b = None
joined joint.ImpliedBy a b = None

-- `==>`, `<==`, `<==>` and `<=!=>`
abbrev pub is_of_jml : Infix → Bool
is_of_jml infixes.Equivalent = true
is_of_jml infixes.NotEquivalent = true
is_of_jml infixes.Implies = true
is_of_jml infixes.ImpliedBy = true
is_of_jml _ = false

-- an operator of JML has no place in code
abbrev pub is_of_java : Span → Infix → Typing (Unit {0})
is_of_java at op = require (not (is_of_jml op)) (NotHere at)

-- the left operand and the right one (JLS 15.17 to 15.24)
abbrev pub infixed : Names → Span → Infix → Value → Value → Typing Denotation
infixed names at op a b =
    found (operation names op a.of b.of) (Mismatch at) >>= λ (o : Operation).
    found (joined o.joint (brought a.of o.left a.node) (brought b.of o.right b.node)) (NotHere at) >>= λ (e : Expr). Good (AValue o.of e)

-- ---- one operand (JLS 15.14, 15.15)

-- a number as it is written
pub record Literal : Type 0 where
  pub width : Width
  pub value : ℤ

abbrev pub width_if_long : Bool → Width
width_if_long true = width.Long
width_if_long false = width.Int

-- the greatest number of a type (JLS 4.2.1)
abbrev pub greatest : Width → ℕ
greatest width.Int = 2147483647
greatest width.Long = 9223372036854775807

abbrev pub literal_up_to : ℕ → Span → ℕ → Width → ℤ → Typing Literal
literal_up_to most at digits w n = require (nat_le digits most) (BigLiteral at) >>= λ u. Good (record { width = w; value = n })

abbrev pub width_written : IntegerLiteral → Width
width_written n = width_if_long n.is_long

-- A literal is at most the greatest number of its type, and one more directly under a minus, with which it is one
-- number (JLS 3.10.1).
abbrev pub literal : Span → IntegerLiteral → Typing Literal
literal at n = literal_up_to (greatest (width_written n)) at n.number (width_written n) (pos n.number)

abbrev pub negated_literal : Span → IntegerLiteral → Typing Literal
negated_literal at n = literal_up_to (greatest (width_written n) + 1) at n.number (width_written n) (neg_ℤ (pos n.number))

abbrev pub literal_under : Prefix → source.Expr → Option (Typing Literal)
literal_under prefixes.Negate (source.Integer at n) = Some (negated_literal at n)
literal_under _ _ = None

-- what an increment or decrement adds
abbrev pub step_of : Prefix → Option ℤ
step_of prefixes.Increment = Some (pos 1)
step_of prefixes.Decrement = Some (negsuc 0)
step_of _ = None

abbrev pub postfix_step : Postfix → ℤ
postfix_step postfixes.Increment = pos 1
postfix_step postfixes.Decrement = negsuc 0

-- an operator without effect, by its operand's type, which is its own
unfoldable pub single : Prefix → ValueType → Option Single
single prefixes.Negate t = option_map (λ (w : Width). Applied (unary.Negate w)) (width_of t)
single prefixes.Plus t = option_map (λ (w : Width). Kept) (width_of t)
single prefixes.Complement t = option_map (λ (w : Width). Applied (unary.Complement w)) (width_of t)
single prefixes.Not t = cond (is_boolean t) (Some (Applied unary.Not)) None
single prefixes.Increment t = None
single prefixes.Decrement t = None

abbrev pub applied : Single → Expr → Expr
applied Kept e = e
applied (Applied op) e = Unary op e

abbrev pub operated : Span → Prefix → Value → Typing Denotation
operated at op v = found (single op v.of) (Mismatch at) >>= λ (s : Single). Good (AValue v.of (applied s v.node))

abbrev pub stepped_before : Span → ℤ → Target → Typing Denotation
stepped_before at by x = found (width_of x.of) (Mismatch at) >>= λ (w : Width). Good (AValue x.of (PrefixIncrement w x.node by))

abbrev pub stepped_behind : Span → ℤ → Target → Typing Denotation
stepped_behind at by x = found (width_of x.of) (Mismatch at) >>= λ (w : Width). Good (AValue x.of (PostfixIncrement w x.node by))

-- ---- the conditional operator (JLS 15.25)

-- the wider reference type of two
abbrev pub wider_reference : Names → ValueType → ValueType → Option ValueType
wider_reference names a b = cond (is_assignable names b a) (Some a) (cond (is_assignable names a b) (Some b) None)

-- the wider type of two
unfoldable pub wider : Names → ValueType → ValueType → Option ValueType
wider names a b =
    or_else (option_map number (promoted a b))
    (cond (booleans a b) (Some boolean)
    (cond (is_reference a && is_reference b) (wider_reference names a b) None))

abbrev pub conditional : Names → Span → Value → Value → Value → Typing Denotation
conditional names at c a b =
    found (wider names a.of b.of) (Mismatch at) >>= λ (t : ValueType). Good (AValue t (Choice c.node (brought a.of t a.node) (brought b.of t b.node)))

-- ---- assignment (JLS 15.26)

-- the operator of a compound assignment
abbrev pub operator_of : AssignOp → Option Infix
operator_of assign.Assign = None
operator_of assign.Add = Some infixes.Add
operator_of assign.Subtract = Some infixes.Subtract
operator_of assign.Multiply = Some infixes.Multiply
operator_of assign.Divide = Some infixes.Divide
operator_of assign.Remainder = Some infixes.Remainder
operator_of assign.BitAnd = Some infixes.BitAnd
operator_of assign.BitOr = Some infixes.BitOr
operator_of assign.BitXor = Some infixes.BitXor
operator_of assign.ShiftLeft = Some infixes.ShiftLeft
operator_of assign.ShiftRight = Some infixes.ShiftRight
operator_of assign.ShiftRightUnsigned = Some infixes.ShiftRightUnsigned

-- only an operator that evaluates both operands is there for an assignment
abbrev pub strict : Joint → Option BinaryOp
strict (joint.Strict op) = Some op
strict _ = None

-- a long result may go to an int, of which it leaves the low 32 bits
abbrev pub is_long_to_int : ValueType → ValueType → Bool
is_long_to_int from to = is_same from long && is_same to int

-- the operation of a compound assignment, whose result may go to a variable of that type
unfoldable pub compound : Names → Span → Infix → ValueType → ValueType → Typing Operation
compound names at op target value =
    found (operation names op target value) (Mismatch at) >>= λ (o : Operation).
    require (is_same o.of target || is_long_to_int o.of target) (Mismatch at) >>= λ u. Good o

abbrev pub assigned_plainly : Names → Span → Target → Value → Typing Denotation
assigned_plainly names value_at x v = require (is_assignable names v.of x.of) (Mismatch value_at) >>= λ u. Good (AValue x.of (Assign x.node (brought v.of x.of v.node)))

abbrev pub assigned_by : Names → Span → Infix → Target → Value → Typing Denotation
assigned_by names at op x v =
    compound names at op x.of v.of >>= λ (o : Operation).
    found (strict o.joint) (Mismatch at) >>= λ (b : BinaryOp).
    Good (AValue x.of (Compound b (is_long_to_int o.of x.of) x.node (brought v.of o.right v.node)))

-- the whole stands at the first place, the value at the second
abbrev pub assigned : Names → Span → Span → Option Infix → Target → Value → Typing Denotation
assigned names at value_at None x v = assigned_plainly names value_at x v
assigned names at value_at (Some op) x v = assigned_by names at op x v
