use Rattle.jr_stmt_parser.proofs.Gives.{exits, fails_first, fails_split_second, found_made, found_second, found_then, gives_first, gives_second, no, yes}
use Rattle.jr_ast.specs.Statements.{view_part}
use Rattle.jr_stmt_parser.proofs.Gives.{one_made, gives_first, gives_second}
use Rattle.jr_stmt_parser.proofs.code.Code.parts.Goals as goal

pub returns-in_err-value : goal.returns-in_err-value
returns-in_err-value c = exits _ _ c.from_residual.ensures.1 (fails_split_second (no c.sees.ensures c.if-sees.false) (fails_split_second (no c.sees-2.ensures c.if-sees-2.false) (fails_first c.in_err-value.ensures)))

pub returns : goal.returns
returns c = found_second (no c.sees.ensures c.if-sees.false) (found_second (no c.sees-2.ensures c.if-sees-2.false) (found_then c.in_ok-value.ensures (found_made (one_made view_part c.new-found.ensures c.in_ok-push.ensures.ok))))

pub returns-then-sees-2 : goal.returns-then-sees-2
returns-then-sees-2 c = gives_second _ _ _ _ _ _ _ (no c.sees.ensures c.if-sees.false) (gives_first _ _ _ _ _ _ _ (yes c.sees-2.ensures c.if-sees-2.true) c.sum.ensures)
