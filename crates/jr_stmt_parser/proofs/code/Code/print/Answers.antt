use Rattle.std.proofs.Common.{arith, sym}
use Rattle.jr_stmt_parser.proofs.Gives.{blamed, exits, fails_first, fails_rest, fails_when, found_made, found_then, found_when}
use Rattle.jr_stmt_parser.proofs.Views.{view_print}
use Rattle.jr_ast.specs.Statements.{view_part}
use Rattle.jr_stmt_parser.proofs.Gives.{length_view, blamed}
use Rattle.jr_stmt_parser.proofs.code.Code.print.Goals as goal

pub returns-in_err-start : goal.returns-in_err-start
returns-in_err-start c = exits _ _ c.from_residual.ensures.1 (fails_first c.in_err-start.ensures)

pub returns-in_err-parts : goal.returns-in_err-parts
returns-in_err-parts c = exits _ _ c.from_residual-in_err-parts.ensures.1 (fails_rest c.in_ok-start.ensures (fails_first c.in_err-parts.ensures))

pub returns-in_err-close : goal.returns-in_err-close
returns-in_err-close c = exits _ _ c.from_residual-in_err-close.ensures.1 (fails_rest c.in_ok-start.ensures (fails_rest c.in_ok-parts.ensures (fails_when (fails_first c.in_err-close.ensures))))

pub returns-in_err-behind : goal.returns-in_err-behind
returns-in_err-behind c = exits _ _ c.from_residual-in_err-behind.ensures.1 (fails_rest c.in_ok-start.ensures (fails_rest c.in_ok-parts.ensures (fails_when (fails_rest c.in_ok-close.ensures (fails_first c.in_err-behind.ensures)))))

pub returns : goal.returns
returns c = found_then c.in_ok-start.ensures (found_then c.in_ok-parts.ensures (found_when (let e = length_view view_part c.in_ok-parts.parts in omega arith) (found_then c.in_ok-close.ensures (found_then c.in_ok-behind.ensures (found_made (sym (view_print _ _)))))))

pub returns-then-len-gt-MAX_PARTS : goal.returns-then-len-gt-MAX_PARTS
returns-then-len-gt-MAX_PARTS c = fails_rest c.in_ok-start.ensures (fails_rest c.in_ok-parts.ensures (blamed c.in_ok-parts.next (omega arith) (λ l y m (t, q). let e = length_view view_part c.in_ok-parts.parts in omega arith) c.refusal.ensures))
