use Rattle.std.proofs.Common.{◌≡◌, map, drop}
use Rattle.std.specs.List.{list_all}
use Rattle.jr_program.specs.ClauseViews.{view_expr}
use Rattle.jr_built.specs.Built.{looks_at_the_moment}
use Rattle.jr_built.proofs.clause.are_states_built.Given as goal

abbrev pub invariant-loop-expr : goal.invariant-loop-expr
invariant-loop-expr l = list_all looks_at_the_moment (map view_expr l.all) ≡ list_all looks_at_the_moment (map view_expr (drop l.expr-index l.all))
