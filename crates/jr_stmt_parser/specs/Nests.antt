-- A function value that reads the statements in a statement.
use Rattle.std.specs.Prelude.{◌≤◌, ℕ, suc, List, Result}
use Rattle.std.specs.declared.alloc.Global.{Global}
use denote.Ref.{Bor}
use Rattle.jr_base.specs.declared.refusal.Fail.{Fail}
use Rattle.jr_lexer.specs.Token.{Token}
use Rattle.jr_ast.specs.declared.stmt.Stmt.{Stmt}
use Rattle.jr_ast.specs.Statements.{view_stmt}
use Rattle.jr_reading.specs.Limits.{nesting_limit}
use Rattle.jr_stmt_parser.specs.Gives.{GivesStatement}
use Rattle.jr_stmt_parser.specs.Pieces.{MayBegin, Inner}

pub record Nests (depth : ℕ) (pre : Global → Bor (List Token) → ℕ → ℕ → Type 0)
    (post : Global → Bor (List Token) → ℕ → ℕ → Result (Stmt × ℕ) Fail → Type 0) : Type 0 where
  pub callable : depth ≤ nesting_limit → (alloc : Global) (tokens : Bor (List Token)) (at : ℕ) → MayBegin tokens.now at → pre alloc tokens at depth
  pub gives : (alloc : Global) (tokens : Bor (List Token)) (at : ℕ) (r : Result (Stmt × ℕ) Fail) → post alloc tokens at depth r → GivesStatement view_stmt tokens.now (suc depth) (Inner tokens.now depth) at r
