use Rattle.std.proofs.Common.{◌≡◌, map, drop}
use Rattle.jr_ast.specs.Expressions.{view_expr}
use Rattle.jr_program.specs.ExprViews.{view_effect}
use Rattle.jr_typing_rules.specs.Answers.{each}
use Rattle.jr_typing_rules.specs.Statements.{effect}
use Rattle.jr_typing.specs.Views.{view_scope}
use Rattle.jr_typing.proofs.Turns.{effects_behind}
use Rattle.jr_typing.proofs.effect.effects.Given as goal

abbrev pub invariant-loop-expr : goal.invariant-loop-expr
invariant-loop-expr l =
    effects_behind (view_scope l.scope) (map view_effect l.done.items) (map view_expr (drop l.expr-index l.all)) ≡ each (effect (view_scope l.scope)) (map view_expr l.all)
