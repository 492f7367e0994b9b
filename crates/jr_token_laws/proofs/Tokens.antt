-- What is read as a token is one.
use Rattle.std.proofs.Common.{◌≡◌, ℕ, Bool, ◌&&◌, List, ◌∷◌}
use Rattle.std.specs.Prelude.{◌==◌, Ok}
use Rattle.std.specs.Char.{is_ascii_digit}
use Rattle.jr_lexer.specs.Token.{Token}
use Rattle.jr_lexer.specs.Lexical.{Text, begins_name, token}
use Rattle.jr_token_laws.proofs.Cuts.{choice}
use Rattle.jr_token_laws.proofs.Singles.{Single, of_word, of_backslash, of_sign}
use Rattle.jr_token_laws.proofs.Integers.{of_integer}
use Rattle.jr_token_laws.proofs.Strings.{of_string}

pub of_token : (jml : Bool) (at b : ℕ) (z : Text) (p : List Token × ℕ) → token jml at (b ∷ z) ≡ Ok p → Single jml at (b ∷ z) p
unfolding token
of_token jml at b z p is =
    choice (begins_name b) _ _ p _ is (λ name read. of_word jml at b z p name read) (λ name is.
    choice (is_ascii_digit b) _ _ p _ is (λ digit read. of_integer jml at b z p digit read) (λ digit is.
    choice (b == 34) _ _ p _ is (λ quote read. of_string jml at b z p quote read) (λ quote is.
    choice (b == 92 && jml) _ _ p _ is (λ word read. of_backslash jml at b z p word read) (λ word read. of_sign jml at (b ∷ z) p read))))
