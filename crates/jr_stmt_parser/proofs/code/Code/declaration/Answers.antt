use Rattle.std.proofs.Common.{sym}
use Rattle.jr_stmt_parser.proofs.Gives.{exits, fails_first, fails_rest, found_made, found_then}
use Rattle.jr_stmt_parser.proofs.Views.{view_locals_form}
use Rattle.jr_stmt_parser.proofs.code.Code.declaration.Goals as goal

pub returns-in_err-locals : goal.returns-in_err-locals
returns-in_err-locals c = exits _ _ c.from_residual.ensures.1 (fails_first c.in_err-locals.ensures)

pub returns-in_err-behind : goal.returns-in_err-behind
returns-in_err-behind c = exits _ _ c.from_residual-in_err-behind.ensures.1 (fails_rest c.in_ok-locals.ensures (fails_first c.in_err-behind.ensures))

pub returns : goal.returns
returns c = found_then c.in_ok-locals.ensures (found_then c.in_ok-behind.ensures (found_made (sym (view_locals_form _ _))))
