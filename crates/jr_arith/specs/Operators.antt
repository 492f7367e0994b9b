-- Operators on values (JLS 15.15 to 15.22). What a program that passed the checks never meets is 0 or false.
use Rattle.std.specs.Prelude.{ℕ, ℤ, pos, neg_ℤ, Bool, true, false, not, ◌&&◌, ◌||◌, ◌==◌, Option, Some}
use Rattle.std.specs.Option.{option_map, option_map_or}
use Rattle.std.specs.Int.{w32, cast_unsigned}
use Rattle.jr_base.specs.declared.value.Value.{Value}
use Rattle.jr_base.specs.declared.value.Value.TheVariants.{Null, Ref, Int, Long, Bool as Truth}
use Rattle.jr_arith.specs.declared.operator.Width.{Width}
use Rattle.jr_arith.specs.declared.operator.Width.TheVariants as width
use Rattle.jr_arith.specs.declared.operator.Unary.{Unary}
use Rattle.jr_arith.specs.declared.operator.Unary.TheVariants.{Negate, Complement, Not}
use Rattle.jr_arith.specs.declared.operator.Binary.{Binary}
use Rattle.jr_arith.specs.declared.operator.Binary.TheVariants.{Arithmetic, Bitwise, Shift, Compare, BothTrue, EitherTrue, Differ, Agree, SameReference, OtherReference}
use Rattle.jr_arith.specs.Arithmetic.{wrapped, fits, exact, complement, bitwise, shifted, compared}

-- the number that a value is
abbrev pub number_of : Value → ℤ
number_of (Int n) = n
number_of (Long n) = n
number_of _ = pos 0

-- The slot of an element: a negative index counts by its 32 bits without a sign, which no array has, since there are
-- fewer cells than that.
abbrev pub index_slot : Value → ℕ
index_slot index = cast_unsigned w32 (number_of index)

-- the number of that type that a value is
abbrev pub number_in : Width → Value → ℤ
number_in width.Int (Int n) = n
number_in width.Long (Long n) = n
number_in _ _ = pos 0

-- the value of that type that a number is
abbrev pub number : Width → ℤ → Value
number width.Int n = Int n
number width.Long n = Long n

-- the truth that a value is
abbrev pub truth_of : Value → Bool
truth_of (Truth b) = b
truth_of _ = false

abbrev pub same_truth : Bool → Bool → Bool
same_truth true b = b
same_truth false b = not b

-- whether two references are one
abbrev pub same_reference : Value → Value → Bool
same_reference Null Null = true
same_reference (Ref a) (Ref b) = a.0 == b.0
same_reference _ _ = false

-- an int as a long is the same number (JLS 5.1.2); of a long, as an int, the low 32 bits are left (JLS 5.1.3)
abbrev pub converted : Width → Value → Value
converted w a = number w (wrapped w (number_of a))

-- an operator before its operand
abbrev pub unary_value : Unary → Value → Value
unary_value (Negate w) a = number w (wrapped w (neg_ℤ (number_in w a)))
unary_value (Complement w) a = number w (complement w (number_in w a))
unary_value Not a = Truth (not (truth_of a))

-- an operator between its operands; none at a zero divisor
abbrev pub binary_value : Binary → Value → Value → Option Value
binary_value (Arithmetic operator w) a b = option_map (λ n. number w (wrapped w n)) (exact operator (number_in w a) (number_in w b))
binary_value (Bitwise operator w) a b = Some (number w (bitwise operator w (number_in w a) (number_in w b)))
binary_value (Shift operator w) a b = Some (number w (shifted operator w (number_in w a) (number_in width.Int b)))
binary_value (Compare operator w) a b = Some (Truth (compared operator (number_in w a) (number_in w b)))
binary_value BothTrue a b = Some (Truth (truth_of a && truth_of b))
binary_value EitherTrue a b = Some (Truth (truth_of a || truth_of b))
binary_value Differ a b = Some (Truth (not (same_truth (truth_of a) (truth_of b))))
binary_value Agree a b = Some (Truth (same_truth (truth_of a) (truth_of b)))
binary_value SameReference a b = Some (Truth (same_reference a b))
binary_value OtherReference a b = Some (Truth (not (same_reference a b)))

-- whether the exact result is a value of the result's type; what has no result, or one that is not a number, passes
abbrev pub unary_fits : Unary → Value → Bool
unary_fits (Negate w) a = fits w (neg_ℤ (number_in w a))
unary_fits _ a = true

abbrev pub binary_fits : Binary → Value → Value → Bool
binary_fits (Arithmetic operator w) a b = option_map_or (fits w) (exact operator (number_in w a) (number_in w b)) true
binary_fits _ a b = true
