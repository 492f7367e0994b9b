-- The laws of expressions that statements rest on.
use Rattle.std.proofs.Common.{ℕ, suc, ◌+◌, ◌≤◌, Bool, List, length}
use Rattle.jr_lexer.specs.Token.{Token}
use Rattle.jr_ast.specs.Expressions.{Expr}
use Rattle.jr_expr_parser.specs.Grammar.{Spells}
use Rattle.jr_expr_parser.specs.Nesting.{nesting}
use Rattle.jr_expr_parser.specs.Answers.{OneTree}
use Rattle.jr_expr_parser.proofs.Tokens as tokens
use Rattle.jr_expr_parser.proofs.Whole as whole

pub one_tree : OneTree
one_tree = whole.one_tree

pub advances : {jml : Bool} {ts : List Token} {q l i j : ℕ} {a : Expr} → Spells jml ts q l i a j → (i + suc (nesting a) ≤ j) × (j ≤ length ts)
advances {jml = jml} {ts = ts} s = tokens.advances jml ts s
