use Rattle.std.proofs.Common.{◌≡◌, map, drop}
use Rattle.jr_program.specs.StatementViews.{chained, catches, view_stmt, view_catch}
use Rattle.jr_lowering.specs.StatementCode.{larger, monitors_in, monitors_in_all}
use Rattle.jr_lowering.proofs.monitors.+monitors.Given as goal

abbrev pub invariant-monitors_of_statements-loop-stmt : goal.invariant-monitors_of_statements-loop-stmt
invariant-monitors_of_statements-loop-stmt l = larger l.most (monitors_in (chained (map view_stmt (drop l.stmt-index l.all)))) ≡ monitors_in (chained (map view_stmt l.all))

abbrev pub invariant-monitors_of_catches-loop-one : goal.invariant-monitors_of_catches-loop-one
invariant-monitors_of_catches-loop-one l = larger l.most (monitors_in_all (catches (map view_catch (drop l.one-index l.all)))) ≡ monitors_in_all (catches (map view_catch l.all))
