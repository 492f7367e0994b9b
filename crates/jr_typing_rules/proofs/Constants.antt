-- Literals are numbers of their types, and the constants of fields have the kinds that those hold.
use Rattle.std.proofs.Common.{◌≡◌, ◌≤◌, ℕ, ◌+◌, ℤ, pos, neg_ℤ, Bool, true, nat_le, Option, Some, None, refl, arith, FitsSigned}
use Rattle.std.proofs.lemmas.Int.{ints}
use Rattle.std.proofs.lemmas.Bool.{leb-true}
use borrow.Author.Differences.{fits_in}
use Rattle.jr_base.specs.declared.number.Span.{Span}
use Rattle.jr_base.specs.declared.action.Elem.TheVariants as elem
use Rattle.jr_base.specs.declared.value.Value.{Value}
use Rattle.jr_base.specs.declared.value.Value.TheVariants as values
use Rattle.jr_arith.specs.declared.operator.Width.{Width}
use Rattle.jr_arith.specs.declared.operator.Width.TheVariants as width
use Rattle.jr_arith.specs.Arithmetic.{machine, fits}
use Rattle.jr_arith.proofs.Widths.{fits-signed, signed-fits}
use Rattle.jr_program.specs.WellFormed.{ConstantHas}
use Rattle.jr_ast.specs.declared.literal.IntegerLiteral.{IntegerLiteral}
use Rattle.jr_ast.specs.declared.unit.Constant.{Constant}
use Rattle.jr_ast.specs.declared.unit.ConstantValue.{ConstantValue}
use Rattle.jr_ast.specs.declared.unit.ConstantValue.TheVariants as constants
use Rattle.jr_typing_rules.specs.declared.words.ValueType.{ValueType}
use Rattle.jr_typing_rules.specs.declared.words.ValueType.TheVariants as type
use Rattle.jr_typing_rules.specs.Types.{number, boolean, kind_of}
use Rattle.jr_typing_rules.specs.Names.{Names, is_assignable, is_thread, is_runnable}
use Rattle.jr_typing_rules.specs.Operators.{Literal, greatest, width_written, literal, negated_literal}
use Rattle.jr_typing_rules.specs.Declarations.{ConstantOf, number_value, number_constant, constant_of, default_value, initial_constant}
use Rattle.jr_typing_rules.proofs.Holding.{Holds, holds-then, holds-require}

-- ---- literals

positive-fits : (w : Width) (n : ℕ) → nat_le n (greatest w) ≡ true → fits w (pos n) ≡ true
positive-fits width.Int n e =
    let small : n ≤ 2147483647 = leb-true n 2147483647 e in signed-fits width.Int (pos n) (omega (arith, ints, fits_in, small))
positive-fits width.Long n e =
    let small : n ≤ 9223372036854775807 = leb-true n 9223372036854775807 e in signed-fits width.Long (pos n) (omega (arith, ints, fits_in, small))

negative-fits : (w : Width) (n : ℕ) → nat_le n (greatest w + 1) ≡ true → fits w (neg_ℤ (pos n)) ≡ true
negative-fits width.Int n e =
    let small : n ≤ 2147483648 = leb-true n 2147483648 e in signed-fits width.Int (neg_ℤ (pos n)) (omega (arith, ints, fits_in, small))
negative-fits width.Long n e =
    let small : n ≤ 9223372036854775808 = leb-true n 9223372036854775808 e in signed-fits width.Long (neg_ℤ (pos n)) (omega (arith, ints, fits_in, small))

abbrev pub LiteralFits : Literal → Type 0
LiteralFits n = fits n.width n.value ≡ true

pub literal-fits : (at : Span) (n : IntegerLiteral) → Holds LiteralFits (literal at n)
literal-fits at n = holds-require LiteralFits (nat_le n.number (greatest (width_written n))) _ _ λ small. positive-fits (width_written n) n.number small

pub negated-fits : (at : Span) (n : IntegerLiteral) → Holds LiteralFits (negated_literal at n)
negated-fits at n = holds-require LiteralFits (nat_le n.number (greatest (width_written n) + 1)) _ _ λ small. negative-fits (width_written n) n.number small

-- an int is a long
wider-fits : (n : ℤ) → fits width.Int n ≡ true → fits width.Long n ≡ true
wider-fits n e = let small : FitsSigned (machine width.Int) n = fits-signed width.Int n e in signed-fits width.Long n (omega (arith, ints, fits_in))

-- ---- where a constant may stand

null-has : (names : Names) (t : ValueType) → is_assignable names type.Null t ≡ true → ConstantHas values.Null (kind_of t)
unfolding is_assignable
null-has names type.Null e = refl
null-has names (type.ArrayOf t) e = refl
null-has names (type.Single elem.Int) e = absurd (cc)
null-has names (type.Single elem.Long) e = absurd (cc)
null-has names (type.Single elem.Bool) e = absurd (cc)
null-has names (type.Single elem.Object) e = refl
null-has names (type.Single elem.Thread) e = refl
null-has names (type.Single elem.Runnable) e = refl
null-has names (type.Single (elem.Class c)) e = refl

boolean-has : (names : Names) (b : Bool) (t : ValueType) → is_assignable names boolean t ≡ true → ConstantHas (values.Bool b) (kind_of t)
unfolding is_assignable is_thread is_runnable
boolean-has names b type.Null e = absurd (cc)
boolean-has names b (type.ArrayOf t) e = absurd (cc)
boolean-has names b (type.Single elem.Int) e = absurd (cc)
boolean-has names b (type.Single elem.Long) e = absurd (cc)
boolean-has names b (type.Single elem.Bool) e = refl
boolean-has names b (type.Single elem.Object) e = absurd (cc)
boolean-has names b (type.Single elem.Thread) e = absurd (cc)
boolean-has names b (type.Single elem.Runnable) e = absurd (cc)
boolean-has names b (type.Single (elem.Class c)) e = absurd (cc)

number-has : (names : Names) (w : Width) (n : ℤ) (t : ValueType) → fits w n ≡ true → is_assignable names (number w) t ≡ true → ConstantHas (number_value n (kind_of t)) (kind_of t)
unfolding is_assignable is_thread is_runnable
number-has names width.Int n (type.Single elem.Int) f e = (refl, f)
number-has names width.Int n (type.Single elem.Long) f e = (refl, wider-fits n f)
number-has names width.Int n (type.Single elem.Bool) f e = absurd (cc)
number-has names width.Int n (type.Single elem.Object) f e = absurd (cc)
number-has names width.Int n (type.Single elem.Thread) f e = absurd (cc)
number-has names width.Int n (type.Single elem.Runnable) f e = absurd (cc)
number-has names width.Int n (type.Single (elem.Class c)) f e = absurd (cc)
number-has names width.Int n type.Null f e = absurd (cc)
number-has names width.Int n (type.ArrayOf t) f e = absurd (cc)
number-has names width.Long n (type.Single elem.Int) f e = absurd (cc)
number-has names width.Long n (type.Single elem.Long) f e = (refl, f)
number-has names width.Long n (type.Single elem.Bool) f e = absurd (cc)
number-has names width.Long n (type.Single elem.Object) f e = absurd (cc)
number-has names width.Long n (type.Single elem.Thread) f e = absurd (cc)
number-has names width.Long n (type.Single elem.Runnable) f e = absurd (cc)
number-has names width.Long n (type.Single (elem.Class c)) f e = absurd (cc)
number-has names width.Long n type.Null f e = absurd (cc)
number-has names width.Long n (type.ArrayOf t) f e = absurd (cc)

abbrev ConstantFits : Names → ValueType → ConstantOf → Type 0
ConstantFits names t v = is_assignable names v.of t ≡ true → ConstantHas (v.value (kind_of t)) (kind_of t)

constant-fits : (names : Names) (t : ValueType) (at : Span) (c : ConstantValue) → Holds (ConstantFits names t) (constant_of at c)
constant-fits names t at constants.Null = null-has names t
constant-fits names t at (constants.Boolean b) = boolean-has names b t
constant-fits names t at (constants.Integer n) =
    holds-then (ConstantFits names t) LiteralFits (literal at n) number_constant (literal-fits at n) λ l f. number-has names l.width l.value t f
constant-fits names t at (constants.Negated n) =
    holds-then (ConstantFits names t) LiteralFits (negated_literal at n) number_constant (negated-fits at n) λ l f. number-has names l.width l.value t f

default-has : (t : ValueType) → ConstantHas (default_value (kind_of t)) (kind_of t)
default-has type.Null = refl
default-has (type.ArrayOf t) = refl
default-has (type.Single elem.Int) = (refl, refl)
default-has (type.Single elem.Long) = (refl, refl)
default-has (type.Single elem.Bool) = refl
default-has (type.Single elem.Object) = refl
default-has (type.Single elem.Thread) = refl
default-has (type.Single elem.Runnable) = refl
default-has (type.Single (elem.Class c)) = refl

-- what a field starts with has the kind of its type
pub initial-has : (names : Names) (t : ValueType) (o : Option Constant) → Holds (λ v. ConstantHas v (kind_of t)) (initial_constant names t o)
initial-has names t None = default-has t
initial-has names t (Some c) =
    let Q = λ (v : Value). ConstantHas v (kind_of t) in
    holds-then Q (ConstantFits names t) (constant_of c.place c.value) _ (constant-fits names t c.place c.value) λ (v : ConstantOf) f.
    holds-require Q (is_assignable names v.of t) _ _ f
