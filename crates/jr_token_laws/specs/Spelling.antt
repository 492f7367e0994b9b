-- How tokens are written (JLS 3.8 to 3.12; JML Reference Manual, "Lexical Conventions"). Each goes as far as it can.
use Rattle.std.specs.Prelude.{◌≡◌, ◌≤◌, ℕ, ◌+◌, ◌-◌, ◌*◌, Bool, true, false, ◌||◌, ◌==◌, ◌⊎◌, List, [], ◌∷◌, ◌++◌, length, codes, slice_index, Some, IsTrue, IsFalse, Contains}
use Rattle.std.specs.List.{list_all, fold}
use Rattle.std.specs.Char.{is_ascii_digit, is_ascii_alphabetic}
use Rattle.jr_lexer.specs.declared.kind.Kind.TheVariants as k
use Rattle.jr_lexer.specs.Lexical.{word_kind, backslash_kind}
use Rattle.jr_lexer.specs.Numbers.{big_literal, no_number}
use Rattle.jr_lexer.specs.Signs.{Sign}
use Rattle.jr_lexer.specs.Token.{Token}
use Rattle.jr_token_laws.specs.LongestSign.{IsLongest}

-- an ASCII letter, `_` or `$`
abbrev pub is_letter : ℕ → Bool
is_letter b = is_ascii_alphabetic b || b == 95 || b == 36

abbrev pub is_letter_or_digit : ℕ → Bool
is_letter_or_digit b = is_letter b || is_ascii_digit b

-- an ASCII letter or `_`
abbrev pub is_backslash_letter : ℕ → Bool
is_backslash_letter b = is_ascii_alphabetic b || b == 95

-- the text doesn't go on with such a byte
abbrev pub Stops : (ℕ → Bool) → List ℕ → Type 0
Stops goes_on [] = Unit {0}
Stops goes_on (b ∷ behind) = IsFalse (goes_on b)

-- A name, or a keyword as the tables have them: as many letters and digits as there are, the first of them a letter (JLS
-- 3.8, 3.9).
pub record IsWord (jml : Bool) (t : Token) (bytes behind : List ℕ) : Type 0 where
  pub begins : IsTrue (is_letter (slice_index bytes 0))
  pub letters : IsTrue (list_all is_letter_or_digit bytes)
  pub stops : Stops is_letter_or_digit behind
  pub kind : t.kind ≡ word_kind jml bytes
  pub text : t.text ≡ bytes
  pub number : t.number ≡ no_number

-- `L` or `l` behind the digits of a literal of long, nothing behind those of an int
abbrev pub IsSuffix : Bool → List ℕ → Type 0
IsSuffix true suffix = (suffix ≡ codes "L") ⊎ (suffix ≡ codes "l")
IsSuffix false suffix = suffix ≡ []

-- the number that decimal digits write
abbrev pub decimal_value : List ℕ → ℕ
decimal_value digits = fold (λ n d. n * 10 + (d - 48)) 0 digits

-- Decimal digits, where a 0 stands alone, and the suffix of its type (JLS 3.10.1). It is at most the greatest literal of
-- that type, and no letter or digit follows at once.
pub record IsInteger (t : Token) (bytes behind : List ℕ) : Type 0 where
  pub digits : List ℕ
  pub suffix : List ℕ
  pub is : bytes ≡ digits ++ suffix
  pub some : 1 ≤ length digits
  pub decimal : IsTrue (list_all is_ascii_digit digits)
  pub zero_alone : slice_index digits 0 ≡ 48 → length digits ≡ 1
  pub suffix_of : IsSuffix t.number.is_long suffix
  pub value : t.number.value ≡ decimal_value digits
  pub greatest : t.number.value ≤ big_literal t.number.is_long
  pub stops : Stops is_letter_or_digit behind
  pub kind : t.kind ≡ k.Integer
  pub text : t.text ≡ bytes

-- the escapes, each a byte behind a backslash and what the two stand for: `\n`, `\t`, `\"` and `\\` (JLS 3.10.7)
abbrev pub escapes : List (ℕ × ℕ)
escapes = (110, 10) ∷ (116, 9) ∷ (34, 34) ∷ (92, 92) ∷ []

-- What stands between the quotes of a string, and what it stands for: an escape for its byte, another byte for itself. No
-- quote, line feed or backslash stands for itself.
pub data StandsFor : List ℕ → List ℕ → Type 0 where
  Nothing : StandsFor [] []
  Itself : (b : ℕ) {written text : List ℕ} → IsFalse (b == 34 || b == 10 || b == 92) → StandsFor written text → StandsFor (b ∷ written) (b ∷ text)
  Escaped : (b c : ℕ) {written text : List ℕ} → Contains escapes (b, c) → StandsFor written text → StandsFor (92 ∷ b ∷ written) (c ∷ text)

-- A string between double quotes, of at most 256 bytes after its escapes (JLS 3.10.5). No letter or digit follows at once.
pub record IsString (t : Token) (bytes behind : List ℕ) : Type 0 where
  pub written : List ℕ
  pub is : bytes ≡ 34 ∷ (written ++ 34 ∷ [])
  pub text : StandsFor written t.text
  pub short : length t.text ≤ 256
  pub stops : Stops is_letter_or_digit behind
  pub kind : t.kind ≡ k.Text
  pub number : t.number ≡ no_number

-- `\` and one or more letters or `_`, as many as there are
pub record IsBackslashWord (t : Token) (bytes behind : List ℕ) : Type 0 where
  pub letters : List ℕ
  pub is : bytes ≡ 92 ∷ letters
  pub some : 1 ≤ length letters
  pub all : IsTrue (list_all is_backslash_letter letters)
  pub stops : Stops is_backslash_letter behind
  pub kind : t.kind ≡ backslash_kind letters
  pub text : t.text ≡ bytes
  pub number : t.number ≡ no_number

-- the longest sign that may be read there
pub record IsSign (jml : Bool) (t : Token) (bytes behind : List ℕ) : Type 0 where
  pub sign : Sign
  pub longest : IsLongest jml (bytes ++ behind) (Some sign)
  pub is : bytes ≡ sign.spelling
  pub kind : t.kind ≡ sign.kind
  pub text : t.text ≡ bytes
  pub number : t.number ≡ no_number

-- The bytes write the token, before what is behind them. A word with a backslash stands in annotations alone.
pub data IsSpelled (jml : Bool) (t : Token) (bytes behind : List ℕ) : Type 0 where
  AsWord : IsWord jml t bytes behind → IsSpelled jml t bytes behind
  AsInteger : IsInteger t bytes behind → IsSpelled jml t bytes behind
  AsString : IsString t bytes behind → IsSpelled jml t bytes behind
  AsBackslashWord : IsTrue jml → IsBackslashWord t bytes behind → IsSpelled jml t bytes behind
  AsSign : IsSign jml t bytes behind → IsSpelled jml t bytes behind
