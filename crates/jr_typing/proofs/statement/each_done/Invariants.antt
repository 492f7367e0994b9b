use Rattle.std.proofs.Common.{◌≡◌, map}
use Rattle.jr_program.specs.Programs.{Do}
use Rattle.jr_program.specs.ExprViews.{view_effect}
use Rattle.jr_program.specs.StatementViews.{view_stmt}
use Rattle.jr_typing.proofs.statement.each_done.Given as goal

abbrev pub invariant-loop-effect : goal.invariant-loop-effect
invariant-loop-effect l = map view_stmt l.made ≡ map Do (map view_effect l.yielded)
