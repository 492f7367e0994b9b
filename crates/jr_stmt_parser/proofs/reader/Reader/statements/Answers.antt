use Rattle.std.proofs.Common.{arith}
use Rattle.jr_stmt_parser.proofs.Gives.{exits_in, no, so_far_fails, so_far_stop, yes}
use Rattle.jr_stmt_parser.proofs.Begins.{open_within}
use Rattle.jr_stmt_parser.specs.Labels as b
use Rattle.jr_stmt_parser.proofs.Moves.{moves, ends}
use Rattle.jr_stmt_parser.proofs.Gives.{so_far_push}
use Rattle.jr_stmt_parser.proofs.Begun.{behind_statement}
use Rattle.jr_stmt_parser.proofs.reader.Reader.statements.Goals as goal

pub returns-in_err-statement : goal.returns-in_err-statement
returns-in_err-statement g c = exits_in _ _ c.from_residual.ensures.1 (λ o w. so_far_fails c.loop-found.invariant.0 (no c.closes.ensures c.loop-found-test.true) (c.in_err-statement.ensures o (b.in_block (c.loop-found.invariant.1.1 o w))))

pub loop-found-smaller : goal.loop-found-smaller
loop-found-smaller g c = let p = c.in_ok-statement.ensures in let lt = moves _ p.it.0 in let more = open_within _ _ (no c.closes.ensures c.loop-found-test.true) in omega arith

pub loop-found-preserved : goal.loop-found-preserved
loop-found-preserved g c = let p = c.in_ok-statement.ensures in (so_far_push _ _ c.in_ok-push.ensures.ok c.loop-found.invariant.0 (no c.closes.ensures c.loop-found-test.true) p, (ends _ p.it.0, λ o w. behind_statement _ _ _ (c.loop-found.invariant.1.1 o w) p))

pub returns : goal.returns
returns g c = so_far_stop c.loop-found.invariant.0 (yes c.closes.ensures c.loop-found-test.false)
