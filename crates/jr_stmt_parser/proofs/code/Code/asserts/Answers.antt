use Rattle.std.proofs.Common.{sym}
use Rattle.jr_stmt_parser.proofs.Gives.{exits, fails_first, found_made, found_then}
use Rattle.jr_stmt_parser.proofs.Leaves.{assert_fails, assert_found}
use Rattle.jr_stmt_parser.proofs.Views.{view_assert}
use Rattle.jr_stmt_parser.proofs.code.Code.asserts.Goals as goal

pub returns-in_err-condition : goal.returns-in_err-condition
returns-in_err-condition c = exits _ _ c.from_residual.ensures.1 (fails_first (assert_fails _ _ _ _ c.requires.above c.in_err-condition.ensures))

pub returns : goal.returns
returns c = found_then (assert_found _ _ c.requires.above c.in_ok-condition.ensures) (found_made (sym (view_assert _ _)))
