-- The signs of Java (JLS 3.11, 3.12) that sources may hold, and the operators that JML adds (JML Reference
-- Manual, "Expressions").
use Rattle.std.specs.Prelude.{ℕ, ◌+◌, Bool, true, false, not, ◌&&◌, ◌||◌, ◌==◌, if◌then◌else◌, List, [], ◌∷◌, codes, slice_index, Option, Some, None}
use Rattle.jr_lexer.specs.declared.kind.Kind.{Kind}
use Rattle.jr_lexer.specs.declared.kind.Kind.TheVariants as k

pub record Sign : Type 0 where
  pub spelling : List ℕ
  pub kind : Kind
  pub jml : Bool

-- a sign of Java
abbrev pub sign : List ℕ → Kind → Sign
sign s kind = record { spelling = s; kind = kind; jml = false }

-- an operator that JML adds
abbrev pub jml_sign : List ℕ → Kind → Sign
jml_sign s kind = record { spelling = s; kind = kind; jml = true }

-- the signs, each before those that it begins with
abbrev pub signs : List Sign
signs =
    sign (codes ".") k.Dot
    ∷ sign (codes ";") k.Semicolon
    ∷ sign (codes ",") k.Comma
    ∷ sign (codes "(") k.OpenParen
    ∷ sign (codes ")") k.CloseParen
    ∷ sign (codes "[") k.OpenBracket
    ∷ sign (codes "]") k.CloseBracket
    ∷ sign (codes "{") k.OpenBrace
    ∷ sign (codes "}") k.CloseBrace
    ∷ sign (codes "@") k.At
    ∷ sign (codes "?") k.Question
    ∷ sign (codes ":") k.Colon
    ∷ sign (codes "~") k.Tilde
    ∷ jml_sign (codes "==>") k.Implies ∷ sign (codes "==") k.EqualEqual ∷ sign (codes "=") k.Equal
    ∷ sign (codes "++") k.PlusPlus ∷ sign (codes "+=") k.PlusEqual ∷ sign (codes "+") k.Plus
    ∷ sign (codes "--") k.MinusMinus ∷ sign (codes "-=") k.MinusEqual ∷ sign (codes "->") k.Arrow ∷ sign (codes "-") k.Minus
    ∷ sign (codes "*=") k.StarEqual ∷ sign (codes "*") k.Star
    ∷ sign (codes "/=") k.SlashEqual ∷ sign (codes "/") k.Slash
    ∷ sign (codes "%=") k.PercentEqual ∷ sign (codes "%") k.Percent
    ∷ sign (codes "^=") k.CaretEqual ∷ sign (codes "^") k.Caret
    ∷ sign (codes "&&") k.AndAnd ∷ sign (codes "&=") k.AndEqual ∷ sign (codes "&") k.And
    ∷ sign (codes "||") k.OrOr ∷ sign (codes "|=") k.OrEqual ∷ sign (codes "|") k.Or
    ∷ sign (codes "!=") k.NotEqual ∷ sign (codes "!") k.Not
    ∷ jml_sign (codes "<=!=>") k.NotEquivalent ∷ jml_sign (codes "<==>") k.Equivalent ∷ jml_sign (codes "<==") k.ImpliedBy ∷ sign (codes "<<=") k.ShiftLeftEqual ∷ sign (codes "<<") k.ShiftLeft ∷ sign (codes "<=") k.LessEqual ∷ sign (codes "<") k.Less
    ∷ sign (codes ">>>=") k.ShiftRightUnsignedEqual ∷ sign (codes ">>>") k.ShiftRightUnsigned ∷ sign (codes ">>=") k.ShiftRightEqual ∷ sign (codes ">>") k.ShiftRight ∷ sign (codes ">=") k.GreaterEqual ∷ sign (codes ">") k.Greater
    ∷ []

-- the bytes of the sign stand in the text from `at` on
abbrev pub stands : List ℕ → ℕ → List ℕ → Bool
stands [] at z = true
stands (b ∷ bs) at z = slice_index z at == b && stands bs (at + 1) z

-- the first of the signs that stands at the front of the text; one of JML only where jml is true
abbrev pub first_sign : List Sign → Bool → List ℕ → Option Sign
first_sign [] jml z = None
first_sign (s ∷ ss) jml z = if (not s.jml || jml) && stands s.spelling 0 z then Some s else first_sign ss jml z

-- the longest sign at the front of the text
unfoldable pub longest_sign : Bool → List ℕ → Option Sign
longest_sign jml z = first_sign signs jml z
