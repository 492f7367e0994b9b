use Rattle.jr_stmt_parser.proofs.Gives.{exits_in, leaf, fails_first, gives_inside}
use Rattle.jr_stmt_parser.proofs.Begun.{behind_token}
use Rattle.jr_stmt_parser.proofs.Begins.{begins_behind, token_taken}
use Rattle.jr_stmt_parser.proofs.reader.Reader.inner_after.Goals as goal

pub returns-in_err-next : goal.returns-in_err-next
returns-in_err-next g c = exits_in _ _ c.from_residual.ensures.1 (λ o w. fails_first (leaf c.in_err-next.ensures))

pub inner-requires-clause-begins : goal.inner-requires-clause-begins
inner-requires-clause-begins g c = begins_behind _ _ _ c.requires.opens c.in_ok-next.ensures

pub returns : goal.returns
returns g c = gives_inside _ _ _ _ _ c.in_ok-next.ensures (token_taken _ _ c.in_ok-next.ensures) (λ o w. behind_token _ _ w c.in_ok-next.ensures) c.inner.ensures
