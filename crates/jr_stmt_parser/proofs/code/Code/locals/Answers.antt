use Rattle.std.proofs.Common.{refl}
use Rattle.jr_stmt_parser.proofs.Gives.{exits, fails_first, fails_rest, found_made, found_then}
use Rattle.jr_stmt_parser.proofs.code.Code.locals.Goals as goal

pub returns-in_err-type_name : goal.returns-in_err-type_name
returns-in_err-type_name c = exits _ _ c.from_residual.ensures.1 (fails_first c.in_err-type_name.ensures)

pub returns-in_err-declarators : goal.returns-in_err-declarators
returns-in_err-declarators c = exits _ _ c.from_residual-in_err-declarators.ensures.1 (fails_rest c.in_ok-type_name.ensures (fails_first c.in_err-declarators.ensures))

pub returns : goal.returns
returns c = found_then c.in_ok-type_name.ensures (found_then c.in_ok-declarators.ensures (found_made refl))
