use Rattle.std.proofs.Common.{sym}
use Rattle.jr_stmt_parser.proofs.Gives.{exits_in, leaf, fails_first, fails_rest, found_made, found_then}
use Rattle.jr_ast.proofs.Views.{view_try}
use Rattle.jr_stmt_parser.proofs.Begun.{in_try, tried}
use Rattle.jr_stmt_parser.proofs.reader.Reader.tries.Goals as goal

pub returns-in_err-start : goal.returns-in_err-start
returns-in_err-start g c = exits_in _ _ c.from_residual.ensures.1 (λ o w. fails_first (leaf c.in_err-start.ensures))

pub returns-in_err-body : goal.returns-in_err-body
returns-in_err-body g c = exits_in _ _ c.from_residual-in_err-body.ensures.1 (λ o w. fails_rest c.in_ok-start.ensures (fails_first (c.in_err-body.ensures o (in_try _ _ w c.in_ok-start.ensures))))

pub returns-in_err-catches : goal.returns-in_err-catches
returns-in_err-catches g c = exits_in _ _ c.from_residual-in_err-catches.ensures.1 (λ o w. fails_rest c.in_ok-start.ensures (fails_rest c.in_ok-body.ensures (fails_first (c.in_err-catches.ensures o (tried _ _ _ w c.in_ok-start.ensures c.in_ok-body.ensures)))))

pub returns : goal.returns
returns g c = found_then c.in_ok-start.ensures (found_then c.in_ok-body.ensures (found_then c.in_ok-catches.ensures (found_made (sym (view_try _ _ _)))))
