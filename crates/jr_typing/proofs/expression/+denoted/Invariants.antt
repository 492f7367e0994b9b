use Rattle.std.proofs.Common.{◌≡◌, map, drop}
use Rattle.jr_ast.specs.Expressions.{exprs, view_expr, view_suffix}
use Rattle.jr_typing_rules.specs.Answers.{one_by_one}
use Rattle.jr_typing_rules.specs.Denotations.{no_arguments}
use Rattle.jr_typing_rules.specs.Expressions.{arguments, member}
use Rattle.jr_typing.specs.Views.{view_arguments, view_denotation, view_scope}
use Rattle.jr_typing.proofs.expression.+denoted.Given as goal

abbrev pub invariant-arguments-loop-expr : goal.invariant-arguments-loop-expr
invariant-arguments-loop-expr l =
    arguments (view_scope l.scope) (view_arguments l.given) (exprs (map view_expr (drop l.expr-index l.all))) ≡ arguments (view_scope l.scope) no_arguments (exprs (map view_expr l.all))

abbrev pub invariant-with_suffixes-loop-suffix : goal.invariant-with_suffixes-loop-suffix
invariant-with_suffixes-loop-suffix l =
    one_by_one (member (view_scope l.scope) l.at) (view_denotation l.denotation) (map view_suffix (drop l.suffix-index l.all)) ≡ one_by_one (member (view_scope l.scope) l.at) (view_denotation l.initial.denotation) (map view_suffix l.all)
