use Rattle.std.proofs.Common.{refl}
use Rattle.jr_stmt_parser.proofs.Gives.{exits, fails_first, fails_pair, fails_rest, fails_split_first, found_first, found_made, found_pair, found_then, yes}
use Rattle.jr_stmt_parser.proofs.code.Code.declared.Goals as goal

pub returns-in_err-name : goal.returns-in_err-name
returns-in_err-name c = exits _ _ c.from_residual.ensures.1 (fails_first c.in_err-name.ensures)

pub returns-in_err-value : goal.returns-in_err-value
returns-in_err-value c = exits _ _ c.from_residual-in_err-value.ensures.1 (fails_rest c.in_ok-name.ensures (fails_split_first (yes c.sees.ensures c.if-sees.true) (fails_pair c.in_err-value.ensures)))

pub returns-then-sees : goal.returns-then-sees
returns-then-sees c = found_then c.in_ok-name.ensures (found_first (yes c.sees.ensures c.if-sees.true) (found_pair c.in_ok-value.ensures (found_made refl)))
