use Rattle.jr_stmt_parser.proofs.Gives.{exits, fails_first}
use Rattle.jr_stmt_parser.proofs.code.Code.empty.Goals as goal

pub returns-in_err-next : goal.returns-in_err-next
returns-in_err-next c = exits _ _ c.from_residual.ensures.1 (fails_first c.in_err-next.ensures)
