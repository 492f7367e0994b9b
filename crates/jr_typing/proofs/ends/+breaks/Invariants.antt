use Rattle.std.proofs.Common.{◌≡◌, false, map, drop}
use Rattle.jr_ast.specs.Statements.{catches, stmts, view_catch, view_stmt}
use Rattle.jr_typing_rules.specs.Ends.{any_breaks, any_catch_breaks}
use Rattle.jr_typing.proofs.ends.+breaks.Given as goal

abbrev pub invariant-any_breaks-loop-stmt : goal.invariant-any_breaks-loop-stmt
invariant-any_breaks-loop-stmt l = any_breaks false (stmts (map view_stmt (drop l.stmt-index l.all))) ≡ any_breaks false (stmts (map view_stmt l.all))

abbrev pub invariant-any_catch_breaks-loop-catch : goal.invariant-any_catch_breaks-loop-catch
invariant-any_catch_breaks-loop-catch l = any_catch_breaks (catches (map view_catch (drop l.catch-index l.all))) ≡ any_catch_breaks (catches (map view_catch l.all))
