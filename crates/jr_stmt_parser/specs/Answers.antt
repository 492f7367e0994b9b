-- What the reader of a block answers.
use Rattle.std.specs.Prelude.{◌≡◌, ◌<◌, ◌≤◌, ◌⊎◌, ℕ, ◌+◌, ◌-◌, false, List, length, map, Result}
use Rattle.jr_base.specs.declared.number.Span.{Span}
use Rattle.jr_base.specs.declared.refusal.Refusal.{Refusal}
use Rattle.jr_base.specs.declared.refusal.Fail.{Fail}
use Rattle.jr_lexer.specs.Token.{Token}
use Rattle.jr_lexer.specs.Reading.{span_at}
use Rattle.jr_ast.specs.declared.stmt.Stmt.{Stmt as StmtTree}
use Rattle.jr_ast.specs.Statements.{Stmts, stmts, view_stmt}
use Rattle.jr_reading.specs.Limits.{nesting_limit}
use Rattle.jr_reading.specs.LeftOut.{IsLeftOut}
use Rattle.jr_reading.specs.Answers as shared
use Rattle.jr_expr_parser.specs.BigLiteral.{BigLiteralAt}
use Rattle.jr_jml_parser.specs.Answers.{BigInClause}
use Rattle.jr_stmt_parser.specs.Grammar.{Block}
use Rattle.jr_stmt_parser.specs.Labels.{OtherLabel}
use Rattle.jr_stmt_parser.specs.Nesting.{Shallow}

-- From i on stands a word or sign that is left out, or one of these labels.
pub record LeftOutFrom (ts : List Token) (Labels : ℕ → Type 0) (i : ℕ) (s : Span) : Type 0 where
  pub at : ℕ
  pub behind : i ≤ at
  pub span : s ≡ span_at ts at
  pub word : IsLeftOut ts at ⊎ Labels at

-- in the block that is opened at i stands a label that isn't `commit`, or from i on a word or sign that is left
-- out
abbrev pub LeftOutIn : List Token → ℕ → Span → Type 0
LeftOutIn ts i s = LeftOutFrom ts (OtherLabel ts i) i s

-- from i on stands, in code or in an annotation, the big literal of a type that isn't the operand of a unary `-`
abbrev pub BigLiteralIn : List Token → ℕ → Span → Type 0
BigLiteralIn ts i s = BigLiteralAt false ts i s ⊎ BigInClause ts i s

-- why no block is read from i on, where depth constructs are above its statements
abbrev pub Refuses : List Token → ℕ → ℕ → Refusal → Type 0
Refuses ts i depth r = shared.Refuses (Block ts i) (Shallow depth) (LeftOutIn ts i) (BigLiteralIn ts i) (nesting_limit < depth + (length ts - i)) r

-- what is answered for a block
abbrev pub Answers : List Token → ℕ → ℕ → Result (List StmtTree × ℕ) Fail → Type 0
Answers ts i depth result = shared.Answers (λ ss. stmts (map view_stmt ss)) (Block ts i) (Shallow depth) (Refuses ts i depth) result

-- no two blocks stand at an index
abbrev pub OneBlock : Type 0
OneBlock = (ts : List Token) (i j m : ℕ) (a b : Stmts) → Block ts i a j → Block ts i b m → (a ≡ b) × (j ≡ m)
