use Rattle.std.proofs.Common.{◌≡◌, map}
use Rattle.jr_program.specs.ExprViews.{view_expr}
use Rattle.jr_typing_rules.specs.Denotations.{all_brought}
use Rattle.jr_typing.proofs.conversion.all_brought.Given as goal

abbrev pub invariant-loop-node : goal.invariant-loop-node
invariant-loop-node l = map view_expr l.exprs ≡ all_brought l.formals l.heads (map view_expr l.yielded)
