-- Results of int and long (JLS 4.2.2, 15.15 to 15.22): two's complement at 32 and 64 bits.
use Rattle.std.specs.Prelude.{◌-◌, ◌/◌, ◌^◌, ◌&&◌, ℕ, zero, ℤ, pos, ◌+ℤ◌, ◌-ℤ◌, ◌*ℤ◌, neg_ℤ, int_div, int_rem, int_lt, int_le, unsigned_abs, Bool, not, Option, Some, None, if◌then◌else◌}
use Rattle.std.specs.Ordering.{int_eq}
use Rattle.std.specs.Int.{Width as Machine, w32, w64, int_wrap, cast_signed, cast_unsigned, int_rem_euclid, int_bit_and, int_bit_or, int_bit_xor, int_bit_not, int_shl, int_shr}
use Rattle.jr_arith.specs.declared.operator.Width.{Width}
use Rattle.jr_arith.specs.declared.operator.Width.TheVariants as width
use Rattle.jr_arith.specs.declared.operator.Arithmetic.{Arithmetic}
use Rattle.jr_arith.specs.declared.operator.Arithmetic.TheVariants.{Add, Subtract, Multiply, Divide, Remainder}
use Rattle.jr_arith.specs.declared.operator.Bitwise.{Bitwise}
use Rattle.jr_arith.specs.declared.operator.Bitwise.TheVariants.{And, Or, Xor}
use Rattle.jr_arith.specs.declared.operator.Shift.{Shift}
use Rattle.jr_arith.specs.declared.operator.Shift.TheVariants.{Left, Right, RightUnsigned}
use Rattle.jr_arith.specs.declared.operator.Comparison.{Comparison}
use Rattle.jr_arith.specs.declared.operator.Comparison.TheVariants.{Less, LessEqual, Greater, GreaterEqual, Equal, NotEqual}

-- ---- types of numbers

-- how many bits a number has
abbrev pub size : Width → ℕ
size width.Int = 32
size width.Long = 64

abbrev pub machine : Width → Machine
machine width.Int = w32
machine width.Long = w64

-- what is left, at so many bits, of an exact result
abbrev pub wrapped : Width → ℤ → ℤ
wrapped w n = int_wrap (machine w) n

-- the type has that number (JLS 4.2.1)
abbrev pub fits : Width → ℤ → Bool
fits w n = int_le (neg_ℤ (pos (2 ^ (size w - 1)))) n && int_lt n (pos (2 ^ (size w - 1)))

-- the number, where the type has it
abbrev pub fitting : Width → ℤ → Option ℤ
fitting w n = if fits w n then Some n else None

-- ---- results

-- the exact result: a quotient is rounded toward zero, and a remainder has the dividend's sign; none where the
-- divisor is zero
abbrev pub exact : Arithmetic → ℤ → ℤ → Option ℤ
exact Add a b = Some (a +ℤ b)
exact Subtract a b = Some (a -ℤ b)
exact Multiply a b = Some (a *ℤ b)
exact Divide a (pos zero) = None
exact Divide a b = Some (int_div a b)
exact Remainder a (pos zero) = None
exact Remainder a b = Some (int_rem a b)

abbrev pub complement : Width → ℤ → ℤ
complement w a = int_bit_not (machine w) a

abbrev pub bitwise : Bitwise → Width → ℤ → ℤ → ℤ
bitwise And w a b = int_bit_and (machine w) a b
bitwise Or w a b = int_bit_or (machine w) a b
bitwise Xor w a b = int_bit_xor (machine w) a b

-- a distance counts modulo 32 where the left side is an int, and modulo 64 where it is a long
abbrev pub distance : Width → ℤ → ℕ
distance w b = unsigned_abs (int_rem_euclid b (pos (size w)))

abbrev pub shifted : Shift → Width → ℤ → ℤ → ℤ
shifted Left w a b = int_shl (machine w) a (distance w b)
shifted Right w a b = int_shr a (distance w b)
shifted RightUnsigned w a b = cast_signed (machine w) (cast_unsigned (machine w) a / 2 ^ distance w b)

abbrev pub compared : Comparison → ℤ → ℤ → Bool
compared Less a b = int_lt a b
compared LessEqual a b = int_le a b
compared Greater a b = int_lt b a
compared GreaterEqual a b = int_le b a
compared Equal a b = int_eq a b
compared NotEqual a b = not (int_eq a b)
