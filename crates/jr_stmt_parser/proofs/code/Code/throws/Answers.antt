use Rattle.jr_stmt_parser.proofs.Gives.{exits, fails_first, fails_rest, fails_split_first, fails_split_second, no, yes}
use Rattle.jr_stmt_parser.proofs.code.Code.throws.Goals as goal

pub returns-in_err-start : goal.returns-in_err-start
returns-in_err-start c = exits _ _ c.from_residual.ensures.1 (fails_first c.in_err-start.ensures)

pub returns-in_err-inside : goal.returns-in_err-inside
returns-in_err-inside c = exits _ _ c.from_residual-in_err-inside.ensures.1 (fails_rest c.in_ok-start.ensures (fails_split_first (yes c.sees.ensures c.if-sees.true) (fails_first c.in_err-inside.ensures)))

pub returns-in_err-class : goal.returns-in_err-class
returns-in_err-class c = exits _ _ c.from_residual-in_err-class.ensures.1 (fails_rest c.in_ok-start.ensures (fails_split_first (yes c.sees.ensures c.if-sees.true) (fails_rest c.in_ok-inside.ensures (fails_first c.in_err-class.ensures))))

pub returns-in_err-end : goal.returns-in_err-end
returns-in_err-end c = exits _ _ c.from_residual-in_err-end.ensures.1 (fails_rest c.in_ok-start.ensures (fails_split_first (yes c.sees.ensures c.if-sees.true) (fails_rest c.in_ok-inside.ensures (fails_rest c.in_ok-class.ensures (fails_first c.in_err-end.ensures)))))

pub returns-in_err-variable : goal.returns-in_err-variable
returns-in_err-variable c = exits _ _ c.from_residual-in_err-variable.ensures.1 (fails_rest c.in_ok-start.ensures (fails_split_second (no c.sees.ensures c.if-sees.false) (fails_first c.in_err-variable.ensures)))

pub returns-in_err-behind : goal.returns-in_err-behind
returns-in_err-behind c = exits _ _ c.from_residual-in_err-behind.ensures.1 (fails_rest c.in_ok-start.ensures (fails_split_second (no c.sees.ensures c.if-sees.false) (fails_rest c.in_ok-variable.ensures (fails_first c.in_err-behind.ensures))))
