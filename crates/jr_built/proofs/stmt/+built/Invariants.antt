use Rattle.std.proofs.Common.{◌≡◌, map, drop}
use Rattle.jr_program.specs.StatementViews.{chained, catches, view_stmt, view_catch}
use Rattle.jr_built.specs.Built.{statement_is_built, catches_are_built}
use Rattle.jr_built.proofs.stmt.+built.Given as goal

abbrev pub invariant-are_stmts_built-loop-stmt : goal.invariant-are_stmts_built-loop-stmt
invariant-are_stmts_built-loop-stmt l = statement_is_built (chained (map view_stmt l.all)) ≡ statement_is_built (chained (map view_stmt (drop l.stmt-index l.all)))

abbrev pub invariant-are_catches_built-loop-one : goal.invariant-are_catches_built-loop-one
invariant-are_catches_built-loop-one l = catches_are_built (catches (map view_catch l.all)) ≡ catches_are_built (catches (map view_catch (drop l.one-index l.all)))
