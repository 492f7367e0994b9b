use Rattle.std.proofs.Common.{refl}
use Rattle.jr_stmt_parser.proofs.Gives.{exits, fails_first, fails_split_first, fails_split_second, found_first, found_made, found_second, found_then, no, yes}
use Rattle.jr_stmt_parser.proofs.code.Code.init.Goals as goal

pub returns-in_err-declaration : goal.returns-in_err-declaration
returns-in_err-declaration c = exits _ _ c.from_residual.ensures.1 (fails_split_second (no c.sees.ensures c.if-sees.false) (fails_split_first (yes c.begins_locals.ensures c.if-begins_locals.true) (fails_first c.in_err-declaration.ensures)))

pub returns-in_err-effects : goal.returns-in_err-effects
returns-in_err-effects c = exits _ _ c.from_residual-in_err-effects.ensures.1 (fails_split_second (no c.sees.ensures c.if-sees.false) (fails_split_second (no c.begins_locals.ensures c.if-begins_locals.false) (fails_first c.in_err-effects.ensures)))

pub returns-then-begins_locals : goal.returns-then-begins_locals
returns-then-begins_locals c = found_second (no c.sees.ensures c.if-sees.false) (found_first (yes c.begins_locals.ensures c.if-begins_locals.true) (found_then c.in_ok-declaration.ensures (found_made refl)))

pub returns : goal.returns
returns c = found_second (no c.sees.ensures c.if-sees.false) (found_second (no c.begins_locals.ensures c.if-begins_locals.false) (found_then c.in_ok-effects.ensures (found_made refl)))
