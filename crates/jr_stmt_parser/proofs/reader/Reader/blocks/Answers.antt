use Rattle.std.proofs.Common.{sym}
use Rattle.jr_stmt_parser.proofs.Gives.{exits_in, fails_first, found_made, found_then}
use Rattle.jr_ast.proofs.Views.{view_block}
use Rattle.jr_stmt_parser.proofs.Begun.{in_block}
use Rattle.jr_stmt_parser.proofs.reader.Reader.blocks.Goals as goal

pub returns-in_err-statements : goal.returns-in_err-statements
returns-in_err-statements g c = exits_in _ _ c.from_residual.ensures.1 (λ o w. fails_first (c.in_err-statements.ensures o (in_block _ _ w)))

pub returns : goal.returns
returns g c = found_then c.in_ok-statements.ensures (found_made (sym (view_block _ _)))
