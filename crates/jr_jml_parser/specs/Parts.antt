-- What the readers of a clause's parts answer. Only contracts of private functions cite these.
use Rattle.std.specs.Prelude.{◌≡◌, ◌≤◌, ℕ, ◌-◌, Bool, true, false, List, map, Result, Ok, Err}
use Rattle.jr_base.specs.declared.refusal.Fail.{Fail}
use Rattle.jr_lexer.specs.declared.kind.Kind.{Kind}
use Rattle.jr_lexer.specs.declared.kind.Kind.TheVariants as k
use Rattle.jr_lexer.specs.Token.{Token}
use Rattle.jr_lexer.specs.Reading.{span_at}
use Rattle.jr_ast.specs.declared.clause.MethodForm.{MethodForm}
use Rattle.jr_ast.specs.declared.clause.ClassForm.{ClassForm}
use Rattle.jr_ast.specs.declared.expr.SpecExpr.{SpecExpr}
use Rattle.jr_ast.specs.Expressions.{view_spec}
use Rattle.jr_ast.specs.Clauses.{method_form, class_form}
use Rattle.jr_reading.specs.Seen.{seen}
use Rattle.jr_expr_parser.specs.BigLiteral.{is_head}
use Rattle.jr_expr_parser.specs.Nesting.{nesting}
use Rattle.jr_jml_parser.specs.Grammar.{Condition, Objects, Modified, SpellsMethod, Declares, is_visibility}
use Rattle.jr_jml_parser.specs.Nesting.{deepest, method_nesting, class_nesting}
use Rattle.jr_jml_parser.specs.Answers.{NotNegated, Answers, Fails}

-- An expression may begin at an index: what stands there isn't negated, and no head of an `if` or a `while`
-- stands before it.
pub record Starts (ts : List Token) (i : ℕ) : Type 0 where
  pub negated : NotNegated ts i
  pub outside : is_head (seen true ts (i - 1)) ≡ false

abbrev pub AnswersCondition : List Token → ℕ → ℕ → Result (SpecExpr × ℕ) Fail → Type 0
AnswersCondition ts i depth result = Answers view_spec (Condition ts i) nesting ts i depth result

abbrev pub AnswersObjects : List Token → ℕ → ℕ → Result (List SpecExpr × ℕ) Fail → Type 0
AnswersObjects ts i depth result = Answers (map view_spec) (Objects ts i) deepest ts i depth result

-- Where only an index is read, what stands there is nothing, which doesn't nest.
abbrev pub Reaches : (ℕ → Type 0) → Unit {0} → ℕ → Type 0
Reaches Stands u j = Stands j

abbrev pub flat : Unit {0} → ℕ
flat u = 0

-- an index, which is read alike at each depth
abbrev pub AnswersPlace : (ℕ → Type 0) → List Token → ℕ → Result ℕ Fail → Type 0
AnswersPlace Stands ts i (Ok j) = Stands j
AnswersPlace Stands ts i (Err f) = Fails (Reaches Stands) flat ts i 0 f

abbrev pub AnswersMethodForm : List Token → ℕ → ℕ → Result (MethodForm × ℕ) Fail → Type 0
AnswersMethodForm ts i depth result = Answers (method_form (span_at ts i)) (SpellsMethod ts i) method_nesting ts i depth result

abbrev pub AnswersClassForm : List Token → Bool → ℕ → ℕ → Result (ClassForm × ℕ) Fail → Type 0
AnswersClassForm ts is_static i depth result = Answers (class_form (span_at ts i)) (Declares ts is_static i) class_nesting ts i depth result

-- a visibility or `static`
abbrev pub is_modifier : Kind → Bool
is_modifier k.Static = true
is_modifier kind = is_visibility kind

-- All modifiers from index i on were read, up to index j: whatever others stand there, up to a token that
-- is none, are these.
pub record AllModified (ts : List Token) (i : ℕ) (is_static : Bool) (j : ℕ) : Type 0 where
  pub modified : Modified ts i is_static j
  pub behind : i ≤ j
  pub only : (s : Bool) (m : ℕ) → Modified ts i s m → is_modifier (seen true ts m) ≡ false → (is_static ≡ s) × (j ≡ m)
