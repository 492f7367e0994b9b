-- The numbers that integer literals write (JLS 3.10.1).
use Rattle.std.specs.Prelude.{ℕ, Bool, false, if◌then◌else◌}
use Rattle.jr_lexer.specs.declared.number.Number.{Number}

-- one more than the greatest int
abbrev pub big_int : ℕ
big_int = 2147483648

-- one more than the greatest long
abbrev pub big_long : ℕ
big_long = 9223372036854775808

-- The greatest literal of long, or of int. It is one more than the greatest number of its type, and stands
-- only under a unary minus.
unfoldable pub big_literal : Bool → ℕ
big_literal long = if long then big_long else big_int

-- what a token writes that is no integer literal
abbrev pub no_number : Number
no_number = record { value = 0; is_long = false }
