-- The tokens of a source of Java (JLS 3) with annotations of JML (JML Reference Manual, "Lexical
-- Conventions"), or the first place from the left at which the source is refused.
use Rattle.std.specs.Prelude.{ℕ, zero, suc, ◌+◌, ◌-◌, ◌*◌, Bool, true, false, not, ◌&&◌, ◌||◌, ◌==◌, nat_lt, if◌then◌else◌, List, [], ◌∷◌, ◌++◌, length, take, drop, fold, codes, slice_index, slice_index_or, Option, Some, None, Result, Ok, Err}
use Rattle.std.specs.List.{prefix_len}
use Rattle.std.specs.Option.{option_map, option_and_then}
use Rattle.std.specs.Char.{is_ascii_digit, is_ascii_alphabetic}
use Rattle.std.specs.Str.{is_utf8, bytes_eq}
use Rattle.std.specs.Str.Lossy.{utf8_valid_len}
use Rattle.jr_base.specs.declared.number.Span.{Span}
use Rattle.jr_base.specs.declared.refusal.Refusal.{Refusal}
use Rattle.jr_base.specs.declared.refusal.Refusal.TheVariants.{BadUtf8, BadToken, OpenComment, BigLiteral, LongText}
use Rattle.jr_ops.specs.Keywords.{keyword_row}
use Rattle.jr_lexer.specs.declared.kind.TheConstants.{KEYWORD_KINDS}
use Rattle.jr_lexer.specs.declared.kind.Kind.{Kind}
use Rattle.jr_lexer.specs.declared.kind.Kind.TheVariants as k
use Rattle.jr_lexer.specs.declared.number.Number.{Number}
use Rattle.jr_lexer.specs.Numbers.{big_literal, no_number}
use Rattle.jr_lexer.specs.Signs.{Sign, longest_sign}
use Rattle.jr_lexer.specs.Token.{Token}

-- the bytes of a source from some place on
abbrev pub Text : Type 0
Text = List ℕ

-- What is read at a place: the tokens that it has, and how many bytes it takes. Or the refusal there.
abbrev pub Piece : Type 0
Piece = Result (List Token × ℕ) Refusal

-- a refusal names the byte at its place
abbrev pub here : ℕ → Span
here at = record { start = at; end = at + 1 }

abbrev pub skip : ℕ → Piece
skip n = Ok ([], n)

-- one token of that many bytes
abbrev pub one : Bool → ℕ → Kind → List ℕ → Number → ℕ → Piece
one jml at kind text number n = Ok (record { kind = kind; text = text; number = number; span = record { start = at; end = at + n }; jml = jml } ∷ [], n)

-- ---- characters

-- space, tab, line feed, carriage return and form feed (JLS 3.6)
abbrev pub is_blank : ℕ → Bool
is_blank b = b == 32 || b == 9 || b == 10 || b == 13 || b == 12

-- an ASCII letter, `_` or `$`
abbrev pub begins_name : ℕ → Bool
begins_name b = is_ascii_alphabetic b || b == 95 || b == 36

abbrev pub in_name : ℕ → Bool
in_name b = begins_name b || is_ascii_digit b

abbrev pub in_backslash_word : ℕ → Bool
in_backslash_word b = is_ascii_alphabetic b || b == 95

abbrev pub is_at : ℕ → Bool
is_at b = b == 64

-- a line ends at its line feed
abbrev pub in_line : ℕ → Bool
in_line b = not (b == 10)

-- ---- words

-- the kind of the keyword in that row
abbrev pub keyword_kind : ℕ → Kind
keyword_kind row = slice_index_or KEYWORD_KINDS row k.Name

abbrev pub kind_of_row : Option ℕ → Kind
kind_of_row None = k.Name
kind_of_row (Some row) = keyword_kind row

-- A word is a name unless it is a keyword; those of JML are so in annotations alone.
unfoldable pub word_kind : Bool → List ℕ → Kind
word_kind jml word = kind_of_row (keyword_row word jml)

-- letters, digits, `_` and `$`, as many as there are (JLS 3.8, 3.9)
unfoldable pub word : Bool → ℕ → Text → Piece
word jml at z = let n = prefix_len in_name z in one jml at (word_kind jml (take n z)) (take n z) no_number n

-- the kind of a word behind its backslash
unfoldable pub backslash_kind : List ℕ → Kind
backslash_kind w =
    if bytes_eq w (codes "result") then k.BackslashResult
    else (if bytes_eq w (codes "old") then k.BackslashOld
    else (if bytes_eq w (codes "lockset") then k.BackslashLockset
    else (if bytes_eq w (codes "forall") then k.BackslashForall
    else (if bytes_eq w (codes "exists") then k.BackslashExists
    else (if bytes_eq w (codes "max") then k.BackslashMax
    else (if bytes_eq w (codes "sum") then k.BackslashSum
    else (if bytes_eq w (codes "num_of") then k.BackslashNumOf
    else k.BackslashOther)))))))

-- `\` and one or more letters or `_`
unfoldable pub backslash_word : Bool → ℕ → Text → Piece
backslash_word jml at z =
    let n = prefix_len in_backslash_word (drop 1 z) in
    if n == 0 then Err (BadToken (here at)) else one jml at (backslash_kind (take n (drop 1 z))) (take (n + 1) z) no_number (n + 1)

-- ---- literals

-- a literal is not followed at once by a letter, a digit, `_` or `$`
abbrev pub literal : Bool → ℕ → Text → Kind → List ℕ → Number → ℕ → Piece
literal jml at z kind text number n = if in_name (slice_index z n) then Err (BadToken (here at)) else one jml at kind text number n

-- the number that decimal digits write
abbrev pub number_of : List ℕ → ℕ
number_of ds = fold (λ n d. n * 10 + (d - 48)) 0 ds

-- how many digits the literal at the front has: a 0 stands alone
abbrev pub digits : Text → ℕ
digits z = if slice_index z 0 == 48 then 1 else prefix_len is_ascii_digit z

-- `L` or `l`
abbrev pub is_long_letter : ℕ → Bool
is_long_letter b = b == 76 || b == 108

-- whether the literal at the front has the letter behind its digits
abbrev pub is_long : Text → Bool
is_long z = is_long_letter (slice_index z (digits z))

-- how many bytes the literal at the front takes, its letter among them
abbrev pub integer_len : Text → ℕ
integer_len z = if is_long z then digits z + 1 else digits z

-- what the literal at the front writes
abbrev pub integer_number : Text → Number
integer_number z = record { value = number_of (take (digits z) z); is_long = is_long z }

-- Decimal digits, and at most one `L` or `l` (JLS 3.10.1), up to the greatest literal of the type.
unfoldable pub integer : Bool → ℕ → Text → Piece
integer jml at z =
    let number = integer_number z in
    if nat_lt (big_literal number.is_long) number.value then Err (BigLiteral (here at))
    else literal jml at z k.Integer (take (integer_len z) z) number (integer_len z)

-- what an escape stands for, by the byte behind its backslash (JLS 3.10.7): `\n`, `\t`, `\"` and `\\`
abbrev pub escape : ℕ → Option ℕ
escape b = if b == 110 then Some 10 else (if b == 116 then Some 9 else (if b == 34 then Some 34 else (if b == 92 then Some 92 else None)))

-- a string is what it stands for, and how many bytes it takes
abbrev pub Quoted : Type 0
Quoted = Option (List ℕ × ℕ)

abbrev pub one_more : List ℕ → Quoted → Quoted
one_more bs None = None
one_more bs (Some q) = Some (bs ++ q.0, q.1 + 1)

-- A byte of a string, and the rest. The byte behind a backslash makes an escape with it.
abbrev pub string_byte : Bool → ℕ → Quoted → Quoted
string_byte true b rest = option_and_then (λ c. one_more (c ∷ []) rest) (escape b)
string_byte false b rest =
    if b == 34 then Some ([], 1)
    else (if b == 10 then None
    else one_more (if b == 92 then [] else b ∷ []) rest)

-- From behind the opening quote of a string, or behind a backslash in it, up to its closing quote. None
-- where it doesn't end on its line, or has another escape.
abbrev pub quoted : Bool → Text → Quoted
quoted escaped [] = None
quoted escaped (b ∷ z) = string_byte escaped b (quoted (b == 92 && not escaped) z)

abbrev pub string_of : Bool → ℕ → Text → Quoted → Piece
string_of jml at z None = Err (BadToken (here at))
string_of jml at z (Some q) = if nat_lt 256 (length q.0) then Err (LongText (here at)) else literal jml at z k.Text q.0 no_number (q.1 + 1)

-- between double quotes on one line (JLS 3.10.5), at most 256 bytes
unfoldable pub string : Bool → ℕ → Text → Piece
string jml at z = string_of jml at z (quoted false (drop 1 z))

-- ---- tokens

abbrev pub sign_of : Bool → ℕ → Text → Option Sign → Piece
sign_of jml at z None = Err (BadToken (here at))
sign_of jml at z (Some s) = one jml at s.kind (take (length s.spelling) z) no_number (length s.spelling)

unfoldable pub sign : Bool → ℕ → Text → Piece
sign jml at z = sign_of jml at z (longest_sign jml z)

-- the longest token at the front of the text
unfoldable pub token : Bool → ℕ → Text → Piece
token jml at z =
    let b = slice_index z 0 in
    if begins_name b then word jml at z
    else (if is_ascii_digit b then integer jml at z
    else (if b == 34 then string jml at z
    else (if b == 92 && jml then backslash_word jml at z
    else sign jml at z)))

-- ---- texts

abbrev pub Read : Type 0
Read = Result (List Token) Refusal

-- the tokens, and those that are read behind them
abbrev pub after : List Token → Read → Read
after ts (Ok more) = Ok (ts ++ more)
after ts (Err e) = Err e

-- the tokens of a piece, and those of the text behind it, which depends on how many bytes are left of it
abbrev pub go_on : Piece → (ℕ → Read) → Read
go_on (Ok p) rest = after p.0 (rest (p.1 - 1))
go_on (Err e) rest = Err e

-- A text is read piece by piece. A piece depends on a state, which goes on with the first byte of each
-- piece; `left` counts the bytes that are left of a piece.
abbrev pub pieces : {S : Type 0} → (S → ℕ → Text → Piece) → (ℕ → S → S) → ℕ → S → ℕ → Text → Read
pieces piece next left s at [] = Ok []
pieces piece next (suc left) s at (b ∷ z) = pieces piece next left s (at + 1) z
pieces piece next zero s at (b ∷ z) = go_on (piece s at (b ∷ z)) (λ left. pieces piece next left (next b s) (at + 1) z)

abbrev pub begins_line_comment : Text → Bool
begins_line_comment z = slice_index z 0 == 47 && slice_index z 1 == 47

abbrev pub begins_block_comment : Text → Bool
begins_block_comment z = slice_index z 0 == 47 && slice_index z 1 == 42

-- whether what follows a piece is at the start of a line or behind blanks there
abbrev pub is_fresh : ℕ → Bool → Bool
is_fresh b fresh = b == 10 || (fresh && is_blank b)

-- In an annotation a run of `@` is skipped at the start of a line behind blanks, and `//` skips to the end
-- of the line.
unfoldable pub jml_piece : Bool → ℕ → Text → Piece
jml_piece fresh at z =
    let b = slice_index z 0 in
    if is_blank b then skip 1
    else (if b == 64 && fresh then skip (prefix_len is_at z)
    else (if begins_line_comment z then skip (prefix_len in_line z)
    else token true at z))

-- The text of an annotation, from behind its `//` or `/*`. It begins with a run of `@`, which is skipped.
-- The state is whether a piece is at the start of its line, or behind blanks there.
unfoldable pub annotation : ℕ → Text → Read
annotation at z = pieces jml_piece is_fresh 0 true at z

abbrev pub of_len : ℕ → Read → Piece
of_len n (Ok ts) = Ok (ts, n)
of_len n (Err e) = Err e

-- `//` up to the end of the line, an annotation where `@` follows
unfoldable pub line_comment : ℕ → Text → Piece
line_comment at z =
    let n = prefix_len in_line z in
    if slice_index z 2 == 64 then of_len n (annotation (at + 2) (drop 2 (take n z))) else skip n

-- how many bytes stand before the next `*/`
abbrev pub before_close : Text → Option ℕ
before_close [] = None
before_close (b ∷ z) = if b == 42 && slice_index z 0 == 47 then Some 0 else option_map (λ n. n + 1) (before_close z)

abbrev pub without_last_at : ℕ → Text → Text
without_last_at b [] = if is_at b then [] else b ∷ []
without_last_at b (c ∷ z) = b ∷ c ∷ z

-- the text without the run of `@` at its end
abbrev pub without_last_ats : Text → Text
without_last_ats [] = []
without_last_ats (b ∷ z) = without_last_at b (without_last_ats z)

abbrev pub closed_comment : ℕ → Text → Option ℕ → Piece
closed_comment at z None = Err (OpenComment (here at))
closed_comment at z (Some n) =
    if slice_index z 2 == 64 then of_len (n + 4) (annotation (at + 2) (without_last_ats (take n (drop 2 z)))) else skip (n + 4)

-- `/*` up to the next `*/`, an annotation where `@` follows, without the run of `@` before its `*/`
unfoldable pub block_comment : ℕ → Text → Piece
block_comment at z = closed_comment at z (before_close (drop 2 z))

unfoldable pub java_piece : ℕ → Text → Piece
java_piece at z =
    if is_blank (slice_index z 0) then skip 1
    else (if begins_line_comment z then line_comment at z
    else (if begins_block_comment z then block_comment at z
    else token false at z))

-- a text outside annotations, from the beginning of a source on
unfoldable pub java : Text → Read
java z = pieces (λ s. java_piece) (λ b s. s) 0 (tt {0}) 0 z

-- the tokens of a source, or the first place from the left at which it is refused
unfoldable pub tokens : Text → Read
tokens z = if is_utf8 z then java z else Err (BadUtf8 (here (utf8_valid_len z)))
