use Rattle.std.proofs.Common.{◌≡◌, drop, map}
use Rattle.jr_program.specs.Sites.{has_commit, some_has_commit}
use Rattle.jr_program.specs.StatementViews.{catches, chained, view_catch, view_stmt}
use Rattle.jr_safepoints.proofs.label.+label.Given as goal

abbrev pub invariant-some_has_commit-loop-stmt : goal.invariant-some_has_commit-loop-stmt
invariant-some_has_commit-loop-stmt l = has_commit (chained (map view_stmt (drop l.stmt-index l.all))) ≡ has_commit (chained (map view_stmt l.all))

abbrev pub invariant-some_handler_has_commit-loop-one : goal.invariant-some_handler_has_commit-loop-one
invariant-some_handler_has_commit-loop-one l = some_has_commit (catches (map view_catch (drop l.one-index l.all))) ≡ some_has_commit (catches (map view_catch l.all))
