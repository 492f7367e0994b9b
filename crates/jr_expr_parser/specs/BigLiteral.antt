-- The big literal of a type: 2147483648, and of `long` 9223372036854775808. It stands where it is itself the
-- operand of a unary `-`, and nowhere else (JLS 3.10.1).
use Rattle.std.specs.Prelude.{◌≡◌, ◌≢◌, ◌≤◌, ◌⊎◌, ℕ, ◌+◌, ◌-◌, Bool, true, false, List}
use Rattle.jr_base.specs.declared.number.Span.{Span}
use Rattle.jr_lexer.specs.declared.kind.Kind.{Kind}
use Rattle.jr_lexer.specs.declared.kind.Kind.TheVariants as k
use Rattle.jr_lexer.specs.Token.{Token}
use Rattle.jr_lexer.specs.Reading.{value_at, big_at, span_at}
use Rattle.jr_ast.specs.Expressions.{Expr}
use Rattle.jr_reading.specs.Seen.{seen}
use Rattle.jr_expr_parser.specs.Operators.{extends}
use Rattle.jr_expr_parser.specs.Grammar.{Spells}

-- the words behind which an expression in brackets is no operand
abbrev pub is_head : Kind → Bool
is_head k.If = true
is_head k.While = true
is_head _ = false

-- A token behind which nothing is the operand of a unary `-`, or an operand at all: any but `-`, `if` and `while`.
abbrev pub frees : Kind → Bool
frees k.Minus = false
frees k.If = false
frees k.While = false
frees _ = true

-- An operand ends before index j: an expression that may stand to the left of a `-`, and is not the head of an
-- `if` or a `while`.
pub record OperandBefore (jml : Bool) (ts : List Token) (j : ℕ) : Type 0 where
  pub first : ℕ
  pub quantifiers : ℕ
  pub operand : Expr
  pub spelled : Spells jml ts quantifiers 14 first operand j
  pub outside : is_head (seen jml ts (first - 1)) ≡ false

-- What stands at an index is not itself the operand of a unary `-`: no `-` stands before it, or one that has an
-- operand on its left, or what stands behind it makes it the operand of another.
abbrev pub Unnegated : Bool → List Token → ℕ → Type 0
Unnegated jml ts at = (seen jml ts (at - 1) ≢ k.Minus) ⊎ (OperandBefore jml ts (at - 1) ⊎ (extends jml (seen jml ts (at + 1)) ≡ true))

-- An index from i on holds the big literal of a type, not itself the operand of a unary `-`.
pub record BigLiteralAt (jml : Bool) (ts : List Token) (i : ℕ) (s : Span) : Type 0 where
  pub at : ℕ
  pub behind : i ≤ at
  pub span : s ≡ span_at ts at
  pub literal : seen jml ts at ≡ k.Integer
  pub number : value_at ts at ≡ big_at ts at
  pub before : Unnegated jml ts at

-- The same for who reads from i on and sees nothing before: the literal stands at i, or it is so where no head
-- stands before i.
pub record BigLiteralFrom (jml : Bool) (ts : List Token) (i : ℕ) (s : Span) : Type 0 where
  pub at : ℕ
  pub behind : i ≤ at
  pub span : s ≡ span_at ts at
  pub literal : seen jml ts at ≡ k.Integer
  pub number : value_at ts at ≡ big_at ts at
  pub before : (at ≡ i) ⊎ (is_head (seen jml ts (i - 1)) ≡ false → Unnegated jml ts at)
