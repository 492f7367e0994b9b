-- How deep a statement nests.
use Rattle.std.specs.Prelude.{◌≤◌, ℕ, suc, ◌+◌, max, List, [], ◌∷◌, Option, Some, None}
use Rattle.jr_ast.specs.Expressions.{Expr}
use Rattle.jr_ast.specs.Statements.{Stmt, Stmts, no_stmt, and_stmt, Catches, no_catch, and_catch, Declarator, ForInit, Declares, Evaluates, Part, Text, Value}
use Rattle.jr_ast.specs.Statements as s
use Rattle.jr_reading.specs.Limits.{nesting_limit}
use Rattle.jr_expr_parser.specs.Nesting.{nesting as nesting_of_expr}

-- ---- what stands directly under a statement or block: the greatest number of constructs above a node of
-- it, the statement or block among them

abbrev pub under : Expr → ℕ
under e = suc (nesting_of_expr e)

abbrev pub under_option : Option Expr → ℕ
under_option None = 0
under_option (Some e) = under e

abbrev pub under_exprs : List Expr → ℕ
under_exprs [] = 0
under_exprs (e ∷ es) = max (under e) (under_exprs es)

abbrev pub under_declarators : List Declarator → ℕ
under_declarators [] = 0
under_declarators (d ∷ ds) = max (under_option d.initial) (under_declarators ds)

abbrev pub under_init : ForInit → ℕ
under_init (Declares t ds) = under_declarators ds
under_init (Evaluates es) = under_exprs es

-- a string is a node as any other
abbrev pub under_part : Part → ℕ
under_part (Text bytes) = 1
under_part (Value e) = under e

abbrev pub under_parts : List Part → ℕ
under_parts [] = 0
under_parts (p ∷ ps) = max (under_part p) (under_parts ps)

-- The greatest number of constructs above a node: statements, and in expressions operators, brackets,
-- calls, `new`, indexes, `\old`, `\lockset` and quantifiers. The blocks of `try`, `catch` and
-- `synchronized` count no more than their statement, and each `else if` counts.
abbrev mutual
  pub nesting : Stmt → ℕ
  nesting (s.Empty at) = 0
  nesting (s.Block at ss) = under_block ss
  nesting (s.Locals at t ds) = under_declarators ds
  nesting (s.Expression at e) = under e
  nesting (s.If at e a) = max (under e) (suc (nesting a))
  nesting (s.IfElse at e a b) = max (under e) (max (suc (nesting a)) (suc (nesting b)))
  nesting (s.While at e a) = max (under e) (suc (nesting a))
  nesting (s.Do at a e) = max (suc (nesting a)) (under e)
  nesting (s.For at init e es a) = max (under_init init) (max (under_option e) (max (under_exprs es) (suc (nesting a))))
  nesting (s.Return at e) = under_option e
  nesting (s.Break at) = 0
  nesting (s.Continue at) = 0
  nesting (s.ThrowNew at x) = 0
  nesting (s.ThrowVariable at x) = 0
  nesting (s.Try at ss cs) = max (under_block ss) (under_catches cs)
  nesting (s.Synchronized at e ss) = max (under e) (under_block ss)
  nesting (s.Commit at a) = suc (nesting a)
  nesting (s.Print at ps) = under_parts ps
  nesting (s.Assert at e) = under e

  pub under_block : Stmts → ℕ
  under_block no_stmt = 0
  under_block (and_stmt a ss) = max (suc (nesting a)) (under_block ss)

  pub under_catches : Catches → ℕ
  under_catches no_catch = 0
  under_catches (and_catch x y ss cs) = max (under_block ss) (under_catches cs)

-- each statement of a block, where depth constructs are above it, nests within the limit
abbrev pub Shallow : ℕ → Stmts → Type 0
Shallow depth no_stmt = Unit {0}
Shallow depth (and_stmt a ss) = (depth + nesting a ≤ nesting_limit) × Shallow depth ss
