-- What readers of blocks rest on.
use Rattle.std.proofs.Common.{ℕ, ◌<◌, ◌≤◌, false, List, length, arith}
use Rattle.jr_lexer.specs.declared.kind.Kind.TheVariants as k
use Rattle.jr_lexer.specs.Token.{Token}
use Rattle.jr_ast.specs.Statements.{Stmts}
use Rattle.jr_stmt_parser.specs.Grammar.{Block, braces}
use Rattle.jr_stmt_parser.specs.Answers.{OneBlock}
use Rattle.jr_stmt_parser.proofs.Begins.{within}
use Rattle.jr_stmt_parser.proofs.Moves as moves
use Rattle.jr_stmt_parser.proofs.Once as once

-- no two blocks stand at an index
pub one_block : OneBlock
one_block = once.one_block

-- a block takes a token at least, and ends within the list
pub block_advances : {ts : List Token} {i j : ℕ} {ss : Stmts} → Block ts i ss j → (i < j) × (j ≤ length ts)
block_advances {ts = ts} (braces {j = close} opened inside closed) =
    let last = within false ts close k.CloseBrace closed (λ e. absurd cc) in
    (moves.block_moves ts (braces opened inside closed), omega arith)
