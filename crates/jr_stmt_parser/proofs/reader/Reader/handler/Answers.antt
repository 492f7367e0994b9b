use Rattle.std.proofs.Common.{sym}
use Rattle.jr_stmt_parser.proofs.Gives.{exits_in, leaf, fails_first, fails_rest, found_made, found_then}
use Rattle.jr_stmt_parser.proofs.Views.{view_catch_record}
use Rattle.jr_stmt_parser.proofs.Begun.{in_catch}
use Rattle.jr_stmt_parser.proofs.reader.Reader.handler.Goals as goal

pub returns-in_err-open : goal.returns-in_err-open
returns-in_err-open g c = exits_in _ _ c.from_residual.ensures.1 (λ o w. fails_first (leaf c.in_err-open.ensures))

pub returns-in_err-class : goal.returns-in_err-class
returns-in_err-class g c = exits_in _ _ c.from_residual-in_err-class.ensures.1 (λ o w. fails_rest c.in_ok-open.ensures (fails_first (leaf c.in_err-class.ensures)))

pub returns-in_err-variable : goal.returns-in_err-variable
returns-in_err-variable g c = exits_in _ _ c.from_residual-in_err-variable.ensures.1 (λ o w. fails_rest c.in_ok-open.ensures (fails_rest c.in_ok-class.ensures (fails_first (leaf c.in_err-variable.ensures))))

pub returns-in_err-next : goal.returns-in_err-next
returns-in_err-next g c = exits_in _ _ c.from_residual-in_err-next.ensures.1 (λ o w. fails_rest c.in_ok-open.ensures (fails_rest c.in_ok-class.ensures (fails_rest c.in_ok-variable.ensures (fails_first (leaf c.in_err-next.ensures)))))

pub returns-in_err-body : goal.returns-in_err-body
returns-in_err-body g c = exits_in _ _ c.from_residual-in_err-body.ensures.1 (λ o w. fails_rest c.in_ok-open.ensures (fails_rest c.in_ok-class.ensures (fails_rest c.in_ok-variable.ensures (fails_rest c.in_ok-next.ensures (fails_first (c.in_err-body.ensures o (in_catch _ _ w c.in_ok-open.ensures c.in_ok-class.ensures c.in_ok-variable.ensures c.in_ok-next.ensures)))))))

pub returns : goal.returns
returns g c = found_then c.in_ok-open.ensures (found_then c.in_ok-class.ensures (found_then c.in_ok-variable.ensures (found_then c.in_ok-next.ensures (found_then c.in_ok-body.ensures (found_made (sym (view_catch_record _)))))))
