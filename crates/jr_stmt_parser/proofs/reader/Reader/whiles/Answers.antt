use Rattle.std.proofs.Common.{sym}
use Rattle.jr_stmt_parser.proofs.Gives.{exits_in, leaf, fails_first, fails_pair, fails_rest, found_made, found_pair, found_then, rest_pair}
use Rattle.jr_stmt_parser.proofs.Views.{view_while}
use Rattle.jr_stmt_parser.proofs.Begun.{in_while}
use Rattle.jr_stmt_parser.proofs.reader.Reader.whiles.Goals as goal

pub returns-in_err-start : goal.returns-in_err-start
returns-in_err-start g c = exits_in _ _ c.from_residual.ensures.1 (λ o w. fails_first (leaf c.in_err-start.ensures))

pub returns-in_err-condition : goal.returns-in_err-condition
returns-in_err-condition g c = exits_in _ _ c.from_residual-in_err-condition.ensures.1 (λ o w. fails_rest c.in_ok-start.ensures (fails_pair (leaf c.in_err-condition.ensures)))

pub returns-in_err-body : goal.returns-in_err-body
returns-in_err-body g c = exits_in _ _ c.from_residual-in_err-body.ensures.1 (λ o w. fails_rest c.in_ok-start.ensures (rest_pair c.in_ok-condition.ensures (fails_pair (c.in_err-body.ensures o (in_while _ _ _ w c.in_ok-start.ensures c.in_ok-condition.ensures)))))

pub returns : goal.returns
returns g c = found_then c.in_ok-start.ensures (found_pair c.in_ok-condition.ensures (found_pair c.in_ok-body.ensures (found_made (sym (view_while _ _ _)))))
