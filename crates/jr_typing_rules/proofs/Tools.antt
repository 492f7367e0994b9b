-- Short words for examples.
use Rattle.std.proofs.Common.{◌≡◌, ℕ, List, [], ◌∷◌, true, false}
use Rattle.jr_base.specs.Positions.{position_in}
use Rattle.jr_base.specs.declared.number.Span.{Span}
use Rattle.jr_base.specs.declared.number.ClassId.{ClassId}
use Rattle.jr_base.specs.declared.number.FieldId.{FieldId}
use Rattle.jr_base.specs.declared.number.MethodId.{MethodId}
use Rattle.jr_base.specs.declared.number.ClauseId.{ClauseId}
use Rattle.jr_base.specs.declared.number.TextId.{TextId}
use Rattle.jr_base.specs.declared.value.Cell.{Cell}
use Rattle.jr_ast.specs.declared.literal.IntegerLiteral.{IntegerLiteral}
use Rattle.jr_ast.specs.declared.name.Name.{Name}
use Rattle.jr_ast.specs.Units.{Class}
use Rattle.jr_program.specs.Programs.{Program}
use Rattle.jr_typing_rules.specs.Answers.{Typing}
use Rattle.jr_typing_rules.specs.Whole.{typing}

-- a source with its tree, and what its typing comes to
pub record Example : Type 0 where
  pub source : List ℕ
  pub classes : List Class
  pub answer : Typing Program

abbrev pub AreTyped : List Example → Type 0
AreTyped [] = Unit {0}
AreTyped (x ∷ xs) = (typing (λ s. position_in x.source s.start) x.classes ≡ x.answer) × AreTyped xs

abbrev pub at : ℕ → ℕ → Span
at start end = record { start = start; end = end }

abbrev pub name : List ℕ → ℕ → ℕ → Name
name letters start end = record { text = letters; place = at start end }

abbrev pub int : ℕ → IntegerLiteral
int n = record { number = n; is_long = false }

abbrev pub long : ℕ → IntegerLiteral
long n = record { number = n; is_long = true }

abbrev pub class : ℕ → ClassId
class n = record { 0 = n }

abbrev pub field : ℕ → FieldId
field n = record { 0 = n }

abbrev pub method : ℕ → MethodId
method n = record { 0 = n }

abbrev pub clause : ℕ → ClauseId
clause n = record { 0 = n }

abbrev pub text : ℕ → TextId
text n = record { 0 = n }

abbrev pub cell : ℕ → ℕ → Cell
cell object slot = record { obj = record { 0 = object }; slot = slot }
