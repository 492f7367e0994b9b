-- What a token is.
use Rattle.std.specs.Prelude.{◌≤◌, ℕ, ◌+◌, Bool, List, [], ◌∷◌, map, take, drop}
use Rattle.jr_base.specs.declared.number.Span.{Span}
use Rattle.jr_lexer.specs.declared.kind.Kind.{Kind}
use Rattle.jr_lexer.specs.declared.number.Number.{Number}
use Rattle.jr_lexer.specs.declared.stored.Stored.{Stored}

-- A token: its kind, its text, the number that it writes, the bytes of the source that it takes, and
-- whether it stands in an annotation. The text of a string literal is what it stands for, the text of any
-- other token is its spelling. Only an integer literal writes a number, others have the int 0.
pub record Token : Type 0 where
  pub kind : Kind
  pub text : List ℕ
  pub number : Number
  pub span : Span
  pub jml : Bool

-- a token whose text stands among the texts
abbrev pub token_of : List ℕ → Stored → Token
token_of texts w = record {
  kind = w.kind;
  text = take w.len (drop w.start texts);
  number = w.number;
  span = w.span;
  jml = w.jml;
}

abbrev pub tokens_of : List ℕ → List Stored → List Token
tokens_of texts ws = map (token_of texts) ws

-- the text of each token stands among the first n bytes of the texts
abbrev pub AllWithin : ℕ → List Stored → Type 0
AllWithin n [] = Unit {0}
AllWithin n (w ∷ ws) = (w.start + w.len ≤ n) × AllWithin n ws
