-- Tokens by their places.
use Rattle.std.specs.Prelude.{ℕ, ◌-◌, Bool, false, List, [], length, Option, Some, None, slice_get}
use Rattle.jr_base.specs.declared.number.Span.{Span}
use Rattle.jr_lexer.specs.declared.kind.Kind.{Kind}
use Rattle.jr_lexer.specs.declared.kind.Kind.TheVariants as k
use Rattle.jr_lexer.specs.declared.number.Number.{Number}
use Rattle.jr_lexer.specs.Numbers.{big_literal, no_number}
use Rattle.jr_lexer.specs.Token.{Token}

abbrev pub kind_of : Option Token → Kind
kind_of None = k.End
kind_of (Some t) = t.kind

abbrev pub text_of : Option Token → List ℕ
text_of None = []
text_of (Some t) = t.text

abbrev pub number_of : Option Token → Number
number_of None = no_number
number_of (Some t) = t.number

abbrev pub is_jml : Option Token → Bool
is_jml None = false
is_jml (Some t) = t.jml

-- the kind of the token at a place, End behind the last
abbrev pub kind_at : List Token → ℕ → Kind
kind_at ts at = kind_of (slice_get ts at)

-- the text of the token at a place, none behind the last
abbrev pub text_at : List Token → ℕ → List ℕ
text_at ts at = text_of (slice_get ts at)

-- the number that the token at a place writes, the int 0 behind the last
abbrev pub number_at : List Token → ℕ → Number
number_at ts at = number_of (slice_get ts at)

-- its value
abbrev pub value_at : List Token → ℕ → ℕ
value_at ts at = (number_at ts at).value

-- the greatest literal of its type
abbrev pub big_at : List Token → ℕ → ℕ
big_at ts at = big_literal (number_at ts at).is_long

-- whether the token at a place stands in an annotation, not so behind the last
abbrev pub jml_at : List Token → ℕ → Bool
jml_at ts at = is_jml (slice_get ts at)

abbrev pub end_of : Option Token → ℕ
end_of None = 0
end_of (Some t) = t.span.end

-- the place in the source behind the last token
abbrev pub last_end : List Token → ℕ
last_end ts = end_of (slice_get ts (length ts - 1))

abbrev pub span_or : ℕ → Option Token → Span
span_or end None = record { start = end; end = end }
span_or end (Some t) = t.span

-- the bytes of the source that the token at a place takes; none behind the last, where that ends
abbrev pub span_at : List Token → ℕ → Span
span_at ts at = span_or (last_end ts) (slice_get ts at)
