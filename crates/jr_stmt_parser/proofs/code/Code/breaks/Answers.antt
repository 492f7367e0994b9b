use Rattle.jr_stmt_parser.proofs.Gives.{exits, fails_first, fails_rest}
use Rattle.jr_stmt_parser.proofs.code.Code.breaks.Goals as goal

pub returns-in_err-next : goal.returns-in_err-next
returns-in_err-next c = exits _ _ c.from_residual.ensures.1 (fails_first c.in_err-next.ensures)

pub returns-in_err-behind : goal.returns-in_err-behind
returns-in_err-behind c = exits _ _ c.from_residual-in_err-behind.ensures.1 (fails_rest c.in_ok-next.ensures (fails_first c.in_err-behind.ensures))
