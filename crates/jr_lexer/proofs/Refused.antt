-- Whatever is read, five refusals are all that come of it.
use Rattle.std.proofs.Common.{ℕ, zero, suc, ◌+◌, ◌-◌, Bool, true, false, if◌then◌else◌, not, ◌&&◌, ◌==◌, nat_lt, slice_index, IsTrue, refl, List, [], ◌∷◌, length, take, drop, Option, Some, None, Result, Ok, Err}
use Rattle.std.specs.Str.{is_utf8}
use Rattle.std.specs.List.{prefix_len}
use Rattle.std.specs.Char.{is_ascii_digit}
use Rattle.std.specs.Str.Lossy.{utf8_valid_len}
use Rattle.jr_base.specs.declared.refusal.Refusal.{Refusal}
use Rattle.jr_base.specs.declared.refusal.Refusal.TheVariants.{BadUtf8, BadToken, OpenComment, BigLiteral, LongText}
use Rattle.jr_lexer.specs.declared.kind.Kind.{Kind}
use Rattle.jr_lexer.specs.declared.kind.Kind.TheVariants as k
use Rattle.jr_lexer.specs.Signs.{Sign, longest_sign}
use Rattle.jr_lexer.specs.declared.number.Number.{Number}
use Rattle.jr_lexer.specs.Numbers.{big_literal, no_number}
use Rattle.jr_lexer.specs.Token.{Token}
use Rattle.jr_lexer.specs.Refusals.{is_lexical, RefusesLexically}
use Rattle.jr_lexer.specs.Lexical.{Text, Piece, Read, Quoted, here, literal, number_of, digits, is_long, integer_len, integer_number, in_name, in_backslash_word, in_line, begins_name, is_blank, begins_line_comment, begins_block_comment, word, backslash_word, integer, quoted, string_of, string, sign_of, sign, token, after, go_on, pieces, jml_piece, is_fresh, annotation, of_len, line_comment, before_close, without_last_ats, closed_comment, block_comment, java_piece, java, tokens}

-- a record, so that what is read is inferred
record Lexical {A : Type 0} (read : Result A Refusal) : Type 0 where
  is : RefusesLexically read

read : {A : Type 0} (x : A) → Lexical (Ok x)
read x = record { is = tt }

refused : {A : Type 0} (r : Refusal) → IsTrue (is_lexical r) → Lexical {A = A} (Err r)
refused r h = record { is = h }

either : {A : Type 0} (b : Bool) (x y : Result A Refusal) → Lexical x → Lexical y → Lexical (if b then x else y)
either true x y p q = p
either false x y p q = q

of_word : (jml : Bool) (at : ℕ) (z : Text) → Lexical (word jml at z)
unfolding word
of_word jml at z = read _

of_backslash : (jml : Bool) (at : ℕ) (z : Text) → Lexical (backslash_word jml at z)
unfolding backslash_word
of_backslash jml at z = either (prefix_len in_backslash_word (drop 1 z) == 0) _ _ (refused (BadToken (here at)) refl) (read _)

of_literal : (jml : Bool) (at : ℕ) (z : Text) (kind : Kind) (text : List ℕ) (number : Number) (n : ℕ) → Lexical (literal jml at z kind text number n)
of_literal jml at z kind text number n = either (in_name (slice_index z n)) _ _ (refused (BadToken (here at)) refl) (read _)

of_integer : (jml : Bool) (at : ℕ) (z : Text) → Lexical (integer jml at z)
unfolding integer
of_integer jml at z =
    either (nat_lt (big_literal (is_long z)) (number_of (take (digits z) z))) _ _ (refused (BigLiteral (here at)) refl)
    (of_literal jml at z k.Integer (take (integer_len z) z) (integer_number z) (integer_len z))

of_quoted : (jml : Bool) (at : ℕ) (z : Text) (q : Quoted) → Lexical (string_of jml at z q)
of_quoted jml at z None = refused (BadToken (here at)) refl
of_quoted jml at z (Some q) = either (nat_lt 256 (length q.0)) _ _ (refused (LongText (here at)) refl) (of_literal jml at z k.Text q.0 no_number (q.1 + 1))

of_string : (jml : Bool) (at : ℕ) (z : Text) → Lexical (string jml at z)
unfolding string
of_string jml at z = of_quoted jml at z (quoted false (drop 1 z))

of_sign_or_none : (jml : Bool) (at : ℕ) (z : Text) (s : Option Sign) → Lexical (sign_of jml at z s)
of_sign_or_none jml at z None = refused (BadToken (here at)) refl
of_sign_or_none jml at z (Some s) = read _

of_sign : (jml : Bool) (at : ℕ) (z : Text) → Lexical (sign jml at z)
unfolding sign
of_sign jml at z = of_sign_or_none jml at z (longest_sign jml z)

of_token : (jml : Bool) (at : ℕ) (z : Text) → Lexical (token jml at z)
unfolding token
of_token jml at z =
    let b = slice_index z 0 in
    either (begins_name b) _ _ (of_word jml at z)
    (either (is_ascii_digit b) _ _ (of_integer jml at z)
    (either (b == 34) _ _ (of_string jml at z)
    (either (b == 92 && jml) _ _ (of_backslash jml at z) (of_sign jml at z))))

of_after : (ts : List Token) (more : Read) → Lexical more → Lexical (after ts more)
of_after ts (Ok us) h = read _
of_after ts (Err e) h = refused e h.is

of_go_on : (p : Piece) (rest : ℕ → Read) → Lexical p → ((left : ℕ) → Lexical (rest left)) → Lexical (go_on p rest)
of_go_on (Ok p) rest h go = of_after p.0 (rest (p.1 - 1)) (go (p.1 - 1))
of_go_on (Err e) rest h go = refused e h.is

of_pieces : {S : Type 0} (piece : S → ℕ → Text → Piece) (next : ℕ → S → S) → ((s : S) (at : ℕ) (z : Text) → Lexical (piece s at z)) →
    (left : ℕ) (s : S) (at : ℕ) (z : Text) → Lexical (pieces piece next left s at z)
of_pieces piece next h left s at [] = read _
of_pieces piece next h (suc left) s at (b ∷ z) = of_pieces piece next h left s (at + 1) z
of_pieces piece next h zero s at (b ∷ z) =
    of_go_on (piece s at (b ∷ z)) (λ left. pieces piece next left (next b s) (at + 1) z) (h s at (b ∷ z)) (λ left. of_pieces piece next h left (next b s) (at + 1) z)

of_jml_piece : (fresh : Bool) (at : ℕ) (z : Text) → Lexical (jml_piece fresh at z)
unfolding jml_piece
of_jml_piece fresh at z =
    let b = slice_index z 0 in
    either (is_blank b) _ _ (read _) (either (b == 64 && fresh) _ _ (read _) (either (begins_line_comment z) _ _ (read _) (of_token true at z)))

of_annotation : (at : ℕ) (z : Text) → Lexical (annotation at z)
unfolding annotation
of_annotation at z = of_pieces jml_piece is_fresh of_jml_piece 0 true at z

of_length : (n : ℕ) (ts : Read) → Lexical ts → Lexical (of_len n ts)
of_length n (Ok ts) h = read _
of_length n (Err e) h = refused e h.is

of_line : (at : ℕ) (z : Text) → Lexical (line_comment at z)
unfolding line_comment
of_line at z =
    let n = prefix_len in_line z in
    either (slice_index z 2 == 64) _ _ (of_length n (annotation (at + 2) (drop 2 (take n z))) (of_annotation (at + 2) (drop 2 (take n z)))) (read _)

of_closed : (at : ℕ) (z : Text) (n : Option ℕ) → Lexical (closed_comment at z n)
of_closed at z None = refused (OpenComment (here at)) refl
of_closed at z (Some n) =
    let text = without_last_ats (take n (drop 2 z)) in
    either (slice_index z 2 == 64) _ _ (of_length (n + 4) (annotation (at + 2) text) (of_annotation (at + 2) text)) (read _)

of_block : (at : ℕ) (z : Text) → Lexical (block_comment at z)
unfolding block_comment
of_block at z = of_closed at z (before_close (drop 2 z))

of_java_piece : (at : ℕ) (z : Text) → Lexical (java_piece at z)
unfolding java_piece
of_java_piece at z =
    either (is_blank (slice_index z 0)) _ _ (read _)
    (either (begins_line_comment z) _ _ (of_line at z) (either (begins_block_comment z) _ _ (of_block at z) (of_token false at z)))

of_java : (z : Text) → Lexical (java z)
unfolding java
of_java z = of_pieces (λ s. java_piece) (λ b s. s) (λ s at z. of_java_piece at z) 0 (tt {0}) 0 z

of_all : (z : Text) → Lexical (tokens z)
unfolding tokens
of_all z = either (is_utf8 z) _ _ (of_java z) (refused (BadUtf8 (here (utf8_valid_len z))) refl)

pub of_tokens : (z : Text) → RefusesLexically (tokens z)
of_tokens z = (of_all z).is
