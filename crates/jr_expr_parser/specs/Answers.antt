-- What the reader of an expression answers.
use Rattle.std.specs.Prelude.{◌≡◌, ◌<◌, ◌≤◌, ℕ, ◌+◌, ◌-◌, Bool, true, false, List, length, Result}
use Rattle.jr_base.specs.declared.refusal.Refusal.{Refusal}
use Rattle.jr_base.specs.declared.refusal.Fail.{Fail}
use Rattle.jr_lexer.specs.Token.{Token}
use Rattle.jr_ast.specs.declared.expr.SpecExpr.{SpecExpr}
use Rattle.jr_ast.specs.declared.expr.Expr.{Expr as ExprTree}
use Rattle.jr_ast.specs.Expressions.{Expr, view_expr, view_spec}
use Rattle.jr_reading.specs.Limits.{nesting_limit}
use Rattle.jr_reading.specs.LeftOut.{LeftOut}
use Rattle.jr_reading.specs.Answers as shared
use Rattle.jr_expr_parser.specs.declared.parsing.Level.{Level}
use Rattle.jr_expr_parser.specs.declared.parsing.Level.TheVariants as level
use Rattle.jr_expr_parser.specs.Nesting.{nesting}
use Rattle.jr_expr_parser.specs.Grammar.{Stands}
use Rattle.jr_expr_parser.specs.BigLiteral.{BigLiteralFrom}

-- an expression nests within the limit, where depth constructs are above it
abbrev pub Shallow : ℕ → Expr → Type 0
Shallow depth a = depth + nesting a ≤ nesting_limit

-- why no expression of the level is read from index i on, where depth constructs are above it
abbrev pub Refuses : Bool → List Token → ℕ → ℕ → ℕ → Refusal → Type 0
Refuses jml ts l i depth r = shared.Refuses (Stands jml ts l i) (Shallow depth) (LeftOut ts i) (BigLiteralFrom jml ts i) (nesting_limit < depth + (length ts - i)) r

abbrev pub Fails : Bool → List Token → ℕ → ℕ → ℕ → Fail → Type 0
Fails jml ts l i depth f = shared.Fails (Refuses jml ts l i depth) f

-- the expression of the level that stands at index i, up to index j, and nests within the limit
abbrev pub Fits : Bool → List Token → ℕ → ℕ → ℕ → Expr → ℕ → Type 0
Fits jml ts l i depth a j = shared.Fits (Stands jml ts l i) (Shallow depth) a j

-- the levels that callers ask for: any expression, and one whose loosest operators are `*`, `/` and `%`
abbrev pub level_of : Level → ℕ
level_of level.Any = 1
level_of level.Product = 15

-- what is answered for an expression of code
abbrev pub Answers : List Token → Level → ℕ → ℕ → Result (ExprTree × ℕ) Fail → Type 0
Answers ts level i depth result = shared.Answers view_expr (Stands false ts (level_of level) i) (Shallow depth) (Refuses false ts (level_of level) i depth) result

-- what is answered for an expression of a clause, which is of level 2
abbrev pub AnswersSpec : List Token → ℕ → ℕ → Result (SpecExpr × ℕ) Fail → Type 0
AnswersSpec ts i depth result = shared.Answers view_spec (Stands true ts 2 i) (Shallow depth) (Refuses true ts 2 i depth) result

-- no two expressions of a level stand at an index
abbrev pub OneTree : Type 0
OneTree = (jml : Bool) (ts : List Token) (l i j m : ℕ) (a b : Expr) → Stands jml ts l i a j → Stands jml ts l i b m → (a ≡ b) × (j ≡ m)
