-- What the reader of a clause answers.
use Rattle.std.specs.Prelude.{◌≡◌, ◌<◌, ◌≤◌, ◌⊎◌, ℕ, ◌+◌, ◌-◌, true, List, length, Result}
use Rattle.jr_base.specs.declared.number.Span.{Span}
use Rattle.jr_base.specs.declared.refusal.Refusal.{Refusal}
use Rattle.jr_base.specs.declared.refusal.Fail.{Fail}
use Rattle.jr_lexer.specs.declared.kind.Kind.TheVariants as k
use Rattle.jr_lexer.specs.Token.{Token}
use Rattle.jr_lexer.specs.Reading.{value_at, big_at, span_at}
use Rattle.jr_ast.specs.declared.clause.Clause.{Clause as ClauseTree}
use Rattle.jr_ast.specs.declared.clause.MethodClause.{MethodClause as MethodClauseTree}
use Rattle.jr_ast.specs.declared.clause.ClassClause.{ClassClause as ClassClauseTree}
use Rattle.jr_ast.specs.declared.expr.SpecExpr.{SpecExpr}
use Rattle.jr_ast.specs.Expressions.{view_spec}
use Rattle.jr_ast.specs.Clauses.{Clause, view_clause, view_method_clause, view_class_clause}
use Rattle.jr_reading.specs.Answers as answers
use Rattle.jr_reading.specs.LeftOut.{LeftOut}
use Rattle.jr_reading.specs.Limits.{nesting_limit}
use Rattle.jr_reading.specs.Seen.{seen}
use Rattle.jr_expr_parser.specs.BigLiteral.{Unnegated}
use Rattle.jr_jml_parser.specs.Grammar.{Tie, SpellsMethod, SpellsClass, SpellsAssert, SpellsClause}
use Rattle.jr_jml_parser.specs.Nesting.{method_nesting, class_nesting, assert_nesting, clause_nesting}

-- What stands at an index is not itself the operand of a unary `-`, as in any expression, or since the `-`
-- before it ends the `<-` of a `monitors_for`.
abbrev pub NotNegated : List Token → ℕ → Type 0
NotNegated ts at = Unnegated true ts at ⊎ ((h : ℕ) × (seen true ts h ≡ k.MonitorsFor) × Tie ts (h + 2) at)

-- An index from i on holds the big literal of a type, not itself the operand of a unary `-`.
pub record BigInClause (ts : List Token) (i : ℕ) (s : Span) : Type 0 where
  pub at : ℕ
  pub behind : i ≤ at
  pub span : s ≡ span_at ts at
  pub literal : seen true ts at ≡ k.Integer
  pub number : value_at ts at ≡ big_at ts at
  pub before : NotNegated ts at

-- Below, Stands a j says that a stands at the index i, up to the index j, nests how deep an a nests, and depth
-- how many constructs are above it.

-- it nests within the limit
abbrev pub Shallow : {A : Type 0} → (A → ℕ) → ℕ → A → Type 0
Shallow nests depth a = depth + nests a ≤ nesting_limit

abbrev pub Refuses : {A : Type 0} → (A → ℕ → Type 0) → (A → ℕ) → List Token → ℕ → ℕ → Refusal → Type 0
Refuses Stands nests ts i depth r = answers.Refuses Stands (Shallow nests depth) (LeftOut ts i) (BigInClause ts i) (nesting_limit < depth + (length ts - i)) r

abbrev pub Fails : {A : Type 0} → (A → ℕ → Type 0) → (A → ℕ) → List Token → ℕ → ℕ → Fail → Type 0
Fails Stands nests ts i depth f = answers.Fails (Refuses Stands nests ts i depth) f

abbrev pub Fits : {A : Type 0} → (A → ℕ → Type 0) → (A → ℕ) → ℕ → A → ℕ → Type 0
Fits Stands nests depth a j = answers.Fits Stands (Shallow nests depth) a j

-- what is answered with a tree, of which view gives the plain data
abbrev pub Answers : {A B : Type 0} → (B → A) → (A → ℕ → Type 0) → (A → ℕ) → List Token → ℕ → ℕ → Result (B × ℕ) Fail → Type 0
Answers view Stands nests ts i depth result = answers.Answers view Stands (Shallow nests depth) (Refuses Stands nests ts i depth) result

abbrev pub AnswersMethod : List Token → ℕ → ℕ → Result (MethodClauseTree × ℕ) Fail → Type 0
AnswersMethod ts i depth result = Answers view_method_clause (SpellsMethod ts i) method_nesting ts i depth result

abbrev pub AnswersClass : List Token → ℕ → ℕ → Result (ClassClauseTree × ℕ) Fail → Type 0
AnswersClass ts i depth result = Answers view_class_clause (SpellsClass ts i) class_nesting ts i depth result

abbrev pub AnswersAssert : List Token → ℕ → ℕ → Result (SpecExpr × ℕ) Fail → Type 0
AnswersAssert ts i depth result = Answers view_spec (SpellsAssert ts i) assert_nesting ts i depth result

abbrev pub AnswersClause : List Token → ℕ → ℕ → Result (ClauseTree × ℕ) Fail → Type 0
AnswersClause ts i depth result = Answers view_clause (SpellsClause ts i) clause_nesting ts i depth result

-- no two clauses stand at an index
abbrev pub OneClause : Type 0
OneClause = (ts : List Token) (i j m : ℕ) (a b : Clause) → SpellsClause ts i a j → SpellsClause ts i b m → (a ≡ b) × (j ≡ m)
