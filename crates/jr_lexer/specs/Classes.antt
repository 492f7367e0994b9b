-- What runs of bytes are made of.
use Rattle.std.specs.Prelude.{ℕ, Bool}
use Rattle.std.specs.Char.{is_ascii_digit}
use Rattle.jr_lexer.specs.declared.scan.Class.{Class}
use Rattle.jr_lexer.specs.declared.scan.Class.TheVariants as class
use Rattle.jr_lexer.specs.Lexical.{in_name, in_backslash_word, is_at, in_line}

abbrev pub is_in : Class → ℕ → Bool
is_in class.Name = in_name
is_in class.Backslash = in_backslash_word
is_in class.Digit = is_ascii_digit
is_in class.At = is_at
is_in class.Line = in_line
