use Rattle.jr_stmt_parser.proofs.Gives.{exits, fails_first, gives_rest}
use Rattle.jr_stmt_parser.proofs.code.Code.value_after.Goals as goal

pub returns-in_err-next : goal.returns-in_err-next
returns-in_err-next c = exits _ _ c.from_residual.ensures.1 (fails_first c.in_err-next.ensures)

pub returns : goal.returns
returns c = gives_rest _ _ _ _ _ c.in_ok-next.ensures c.value.ensures
