use Rattle.std.proofs.Common.{refl}
use Rattle.jr_stmt_parser.proofs.Gives.{exits_in, leaf, fails_first, fails_inside, fails_rest, found_made, found_then}
use Rattle.jr_stmt_parser.proofs.Begins.{begins_behind, token_taken}
use Rattle.jr_stmt_parser.proofs.Begun.{in_braces}
use Rattle.jr_stmt_parser.proofs.reader.Reader.block.Goals as goal

pub returns-in_err-start : goal.returns-in_err-start
returns-in_err-start g c = exits_in _ _ c.from_residual.ensures.1 (λ o w. fails_first (leaf c.in_err-start.ensures))

pub returns-in_err-statements : goal.returns-in_err-statements
returns-in_err-statements g c = exits_in _ _ c.from_residual-in_err-statements.ensures.1 (λ o w. fails_inside (token_taken _ _ c.in_ok-start.ensures).0 (token_taken _ _ c.in_ok-start.ensures).1 c.in_ok-start.ensures (fails_first (c.in_err-statements.ensures o (in_braces _ _ w c.in_ok-start.ensures))))

pub returns-in_err-behind : goal.returns-in_err-behind
returns-in_err-behind g c = exits_in _ _ c.from_residual-in_err-behind.ensures.1 (λ o w. fails_rest c.in_ok-start.ensures (fails_rest c.in_ok-statements.ensures (fails_first (leaf c.in_err-behind.ensures))))

pub returns : goal.returns
returns g c = found_then c.in_ok-start.ensures (found_then c.in_ok-statements.ensures (found_then c.in_ok-behind.ensures (found_made refl)))

pub statements-requires-clause-begins : goal.statements-requires-clause-begins
statements-requires-clause-begins g c = begins_behind _ _ _ refl c.in_ok-start.ensures
