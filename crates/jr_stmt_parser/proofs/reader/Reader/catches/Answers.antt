use Rattle.jr_stmt_parser.proofs.Gives.{exits_in, leaf, fails_first, fails_rest, found_then, so_far_init, so_far_push, so_far_stop, so_far_fails, yes, no}
use Rattle.jr_stmt_parser.proofs.Begun.{caught, catching}
use Rattle.jr_stmt_parser.proofs.reader.Reader.catches.Goals as goal

pub returns-in_err-open : goal.returns-in_err-open
returns-in_err-open g c = exits_in _ _ c.from_residual.ensures.1 (λ o w. fails_first (fails_first (leaf c.in_err-open.ensures)))

pub returns-in_err-first : goal.returns-in_err-first
returns-in_err-first g c = exits_in _ _ c.from_residual-in_err-first.ensures.1 (λ o w. fails_first (fails_rest c.in_ok-open.ensures (c.in_err-first.ensures o (catching _ _ w c.in_ok-open.ensures))))

pub loop-found-init : goal.loop-found-init
loop-found-init g c = (so_far_init _ c.new-found.ensures c.in_ok-push.ensures.ok (found_then c.in_ok-open.ensures c.in_ok-first.ensures), λ o t. caught _ _ _ t (found_then c.in_ok-open.ensures c.in_ok-first.ensures))

pub loop-found-preserved : goal.loop-found-preserved
loop-found-preserved g c = (so_far_push _ _ c.in_ok-push-2.ensures.ok c.loop-found.invariant.0 (λ n. n (yes c.sees.ensures c.loop-found-test.true)) (found_then c.in_ok-next.ensures c.in_ok-catch.ensures), λ o t. caught _ _ _ (c.loop-found.invariant.1 o t) (found_then c.in_ok-next.ensures c.in_ok-catch.ensures))

pub returns : goal.returns
returns g c = so_far_stop c.loop-found.invariant.0 (no c.sees.ensures c.loop-found-test.false)

pub returns-in_err-next : goal.returns-in_err-next
returns-in_err-next g c = exits_in _ _ c.from_residual-in_err-next.ensures.1 (λ o w. so_far_fails c.loop-found.invariant.0 (λ n. n (yes c.sees.ensures c.loop-found-test.true)) (fails_first (leaf c.in_err-next.ensures)))

pub returns-in_err-catch : goal.returns-in_err-catch
returns-in_err-catch g c = exits_in _ _ c.from_residual-in_err-catch.ensures.1 (λ o w. so_far_fails c.loop-found.invariant.0 (λ n. n (yes c.sees.ensures c.loop-found-test.true)) (fails_rest c.in_ok-next.ensures (c.in_err-catch.ensures o (catching _ _ (c.loop-found.invariant.1 o w) c.in_ok-next.ensures))))
