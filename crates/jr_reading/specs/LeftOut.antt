-- What begins forms of Java or JML that this checker leaves out.
use Rattle.std.specs.Prelude.{◌≡◌, ◌≤◌, ◌⊎◌, ℕ, ◌+◌, ◌-◌, Bool, true, false, List, codes}
use Rattle.jr_base.specs.declared.number.Span.{Span}
use Rattle.jr_lexer.specs.declared.kind.Kind.{Kind}
use Rattle.jr_lexer.specs.declared.kind.Kind.TheVariants as k
use Rattle.jr_lexer.specs.Token.{Token}
use Rattle.jr_lexer.specs.Reading.{kind_at, jml_at, text_at, span_at}
use Rattle.jr_reading.specs.Seen.{seen}

-- The words and signs that begin forms of Java or JML which are left out; jml is true where they stand in an
-- annotation.
abbrev pub left_out : Bool → Kind → Bool
left_out _ k.Switch = true
left_out _ k.Case = true
left_out _ k.Default = true
left_out _ k.Finally = true
left_out _ k.Instanceof = true
left_out _ k.Interface = true
left_out _ k.Enum = true
left_out _ k.Abstract = true
left_out _ k.Native = true
left_out _ k.Transient = true
left_out _ k.Strictfp = true
left_out _ k.Super = true
left_out _ k.Float = true
left_out _ k.Double = true
left_out _ k.Char = true
left_out _ k.Byte = true
left_out _ k.Short = true
left_out _ k.Goto = true
left_out _ k.Const = true
left_out _ k.Arrow = true
left_out false k.Assert = true
left_out true k.Signals = true
left_out true k.Also = true
left_out true k.Model = true
left_out true k.Ghost = true
left_out true k.Set = true
left_out true k.Assume = true
left_out true k.NormalBehavior = true
left_out true k.ExceptionalBehavior = true
left_out true k.LoopInvariant = true
left_out true k.Maintaining = true
left_out true k.Decreases = true
left_out true k.Represents = true
left_out true k.BackslashMax = true
left_out true k.BackslashSum = true
left_out true k.BackslashNumOf = true
left_out _ _ = false

-- The name `print` behind a dot, of a call that is given a string: a string stands in a `println` alone.
pub record PrintsString (ts : List Token) (at : ℕ) : Type 0 where
  pub dot : seen false ts (at - 1) ≡ k.Dot
  pub name : seen false ts at ≡ k.Name
  pub text : text_at ts at ≡ codes "print"
  pub call : seen false ts (at + 1) ≡ k.OpenParen
  pub string : seen false ts (at + 2) ≡ k.Text

-- The token at an index is a word or sign that is left out.
abbrev pub IsLeftOut : List Token → ℕ → Type 0
IsLeftOut ts at = (left_out (jml_at ts at) (kind_at ts at) ≡ true) ⊎ PrintsString ts at

-- Such a token stands at an index from i on.
pub record LeftOut (ts : List Token) (i : ℕ) (s : Span) : Type 0 where
  pub at : ℕ
  pub behind : i ≤ at
  pub span : s ≡ span_at ts at
  pub word : IsLeftOut ts at
