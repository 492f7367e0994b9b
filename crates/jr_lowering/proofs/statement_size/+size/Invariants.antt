use Rattle.std.proofs.Common.{◌≡◌, ◌+◌, map, drop}
use Rattle.jr_program.specs.UnitViews.{program_of}
use Rattle.jr_program.specs.StatementViews.{chained, catches, view_stmt, view_catch}
use Rattle.jr_lowering.specs.StatementCode.{statement_size, catches_size}
use Rattle.jr_lowering.proofs.statement_size.+size.Given as goal

abbrev pub invariant-size_of_statements-loop-stmt : goal.invariant-size_of_statements-loop-stmt
invariant-size_of_statements-loop-stmt l = l.total + statement_size (program_of l.unit) (chained (map view_stmt (drop l.stmt-index l.all))) l.around ≡ statement_size (program_of l.unit) (chained (map view_stmt l.all)) l.around

abbrev pub invariant-size_of_catches-loop-one : goal.invariant-size_of_catches-loop-one
invariant-size_of_catches-loop-one l = l.total + catches_size (program_of l.unit) (catches (map view_catch (drop l.one-index l.all))) l.around ≡ catches_size (program_of l.unit) (catches (map view_catch l.all)) l.around
