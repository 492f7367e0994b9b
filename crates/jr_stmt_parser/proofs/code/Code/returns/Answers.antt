use Rattle.std.proofs.Common.{sym}
use Rattle.jr_stmt_parser.proofs.Gives.{exits, fails_first, fails_rest, found_made, found_then}
use Rattle.jr_stmt_parser.proofs.Views.{view_return}
use Rattle.jr_stmt_parser.proofs.code.Code.returns.Goals as goal

pub returns-in_err-start : goal.returns-in_err-start
returns-in_err-start c = exits _ _ c.from_residual.ensures.1 (fails_first c.in_err-start.ensures)

pub returns-in_err-value : goal.returns-in_err-value
returns-in_err-value c = exits _ _ c.from_residual-in_err-value.ensures.1 (fails_rest c.in_ok-start.ensures (fails_first c.in_err-value.ensures))

pub returns-in_err-behind : goal.returns-in_err-behind
returns-in_err-behind c = exits _ _ c.from_residual-in_err-behind.ensures.1 (fails_rest c.in_ok-start.ensures (fails_rest c.in_ok-value.ensures (fails_first c.in_err-behind.ensures)))

pub returns : goal.returns
returns c = found_then c.in_ok-start.ensures (found_then c.in_ok-value.ensures (found_then c.in_ok-behind.ensures (found_made (sym (view_return _ _)))))
