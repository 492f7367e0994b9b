use Rattle.jr_stmt_parser.proofs.Gives.{exits, fails_of}
use Rattle.jr_stmt_parser.proofs.code.Code.string.Goals as goal

pub returns-in_err-next : goal.returns-in_err-next
returns-in_err-next c = exits _ _ c.from_residual.ensures.1 (fails_of (λ l y m r. (tt, m, (r.0, r.2, r.4))) c.in_err-next.ensures)
