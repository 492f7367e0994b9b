use Rattle.std.proofs.Common.{sym}
use Rattle.jr_stmt_parser.proofs.Gives.{exits_in, leaf, fails_first, fails_pair, fails_rest, found_made, found_pair, found_then, rest_pair}
use Rattle.jr_stmt_parser.proofs.Views.{view_do}
use Rattle.jr_stmt_parser.proofs.Begun.{in_do}
use Rattle.jr_stmt_parser.proofs.reader.Reader.dos.Goals as goal

pub returns-in_err-body : goal.returns-in_err-body
returns-in_err-body g c = exits_in _ _ c.from_residual.ensures.1 (λ o w. fails_pair (c.in_err-body.ensures o (in_do _ _ w)))

pub returns-in_err-open : goal.returns-in_err-open
returns-in_err-open g c = exits_in _ _ c.from_residual-in_err-open.ensures.1 (λ o w. rest_pair c.in_ok-body.ensures (fails_first (leaf c.in_err-open.ensures)))

pub returns-in_err-condition : goal.returns-in_err-condition
returns-in_err-condition g c = exits_in _ _ c.from_residual-in_err-condition.ensures.1 (λ o w. rest_pair c.in_ok-body.ensures (fails_rest c.in_ok-open.ensures (fails_pair (leaf c.in_err-condition.ensures))))

pub returns-in_err-next : goal.returns-in_err-next
returns-in_err-next g c = exits_in _ _ c.from_residual-in_err-next.ensures.1 (λ o w. rest_pair c.in_ok-body.ensures (fails_rest c.in_ok-open.ensures (rest_pair c.in_ok-condition.ensures (fails_first (leaf c.in_err-next.ensures)))))

pub returns-in_err-behind : goal.returns-in_err-behind
returns-in_err-behind g c = exits_in _ _ c.from_residual-in_err-behind.ensures.1 (λ o w. rest_pair c.in_ok-body.ensures (fails_rest c.in_ok-open.ensures (rest_pair c.in_ok-condition.ensures (fails_rest c.in_ok-next.ensures (fails_first (leaf c.in_err-behind.ensures))))))

pub returns : goal.returns
returns g c = found_pair c.in_ok-body.ensures (found_then c.in_ok-open.ensures (found_pair c.in_ok-condition.ensures (found_then c.in_ok-next.ensures (found_then c.in_ok-behind.ensures (found_made (sym (view_do _ _ _)))))))
