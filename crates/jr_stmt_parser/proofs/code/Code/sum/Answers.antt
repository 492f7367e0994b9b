use Rattle.jr_stmt_parser.proofs.Gives.{exits, fails_first, fails_rest, found_then, so_far_init, so_far_push, so_far_stop, so_far_fails, yes, no}
use Rattle.jr_stmt_parser.proofs.code.Code.sum.Goals as goal

pub returns-in_err-first : goal.returns-in_err-first
returns-in_err-first c = exits _ _ c.from_residual.ensures.1 (fails_first c.in_err-first.ensures)

pub loop-found-init : goal.loop-found-init
loop-found-init c = so_far_init _ c.new-found.ensures c.in_ok-push.ensures.ok c.in_ok-first.ensures

pub loop-found-preserved : goal.loop-found-preserved
loop-found-preserved c = so_far_push _ _ c.in_ok-push-2.ensures.ok c.loop-found.invariant (λ n. n (yes c.sees.ensures c.loop-found-test.true)) (found_then c.in_ok-next.ensures c.in_ok-part.ensures)

pub returns : goal.returns
returns c = so_far_stop c.loop-found.invariant (no c.sees.ensures c.loop-found-test.false)

pub returns-in_err-next : goal.returns-in_err-next
returns-in_err-next c = exits _ _ c.from_residual-in_err-next.ensures.1 (so_far_fails c.loop-found.invariant (λ n. n (yes c.sees.ensures c.loop-found-test.true)) (fails_first c.in_err-next.ensures))

pub returns-in_err-part : goal.returns-in_err-part
returns-in_err-part c = exits _ _ c.from_residual-in_err-part.ensures.1 (so_far_fails c.loop-found.invariant (λ n. n (yes c.sees.ensures c.loop-found-test.true)) (fails_rest c.in_ok-next.ensures c.in_err-part.ensures))
