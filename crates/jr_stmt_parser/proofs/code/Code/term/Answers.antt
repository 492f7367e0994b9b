use Rattle.std.proofs.Common.{refl}
use Rattle.jr_stmt_parser.proofs.Gives.{exits, fails_first, fails_split_first, fails_split_second, found_made, found_second, found_then, no, yes}
use Rattle.jr_stmt_parser.proofs.code.Code.term.Goals as goal

pub returns-in_err-part : goal.returns-in_err-part
returns-in_err-part c = exits _ _ c.from_residual.ensures.1 (fails_split_first (yes c.sees.ensures c.if-sees.true) (c.in_err-part.ensures))

pub returns-in_err-value : goal.returns-in_err-value
returns-in_err-value c = exits _ _ c.from_residual-in_err-value.ensures.1 (fails_split_second (no c.sees.ensures c.if-sees.false) (fails_first c.in_err-value.ensures))

pub returns : goal.returns
returns c = found_second (no c.sees.ensures c.if-sees.false) (found_then c.in_ok-value.ensures (found_made refl))
