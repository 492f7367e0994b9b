-- The view of an operator before its operand.
use Rattle.std.proofs.Common.{◌≡◌, sym, ap, ◌∙◌, subst}
use Rattle.jr_base.specs.declared.number.Span.{Span}
use Rattle.jr_base.specs.declared.refusal.Fail.{Fail}
use Rattle.std.specs.Prelude.{Result}
use Rattle.jr_ast.specs.declared.operator.Prefix.{Prefix}
use Rattle.jr_ast.specs.declared.expr.Expr.{Expr as ExprTree}
use Rattle.jr_ast.specs.declared.expr.Shape.{Shape}
use Rattle.jr_ast.specs.declared.expr.Shape.TheVariants as shape
use Rattle.jr_ast.specs.declared.expr.Shape.TheOpen as layer
use Rattle.jr_ast.specs.declared.expr.Shape.TheFolds.{fold-roll-Shape}
use Rattle.jr_ast.specs.Expressions.{Expr, Suffix, Prefixed, Placed, shape_view, suffix_view, expr_view, quantified_view, view_expr, view_shape}
use Rattle.jr_typing_rules.specs.Answers.{Typing}
use Rattle.jr_typing_rules.specs.Scopes.{Scope}
use Rattle.jr_typing_rules.specs.Denotations.{Denotation}
use Rattle.jr_typing_rules.specs.Expressions.{denotes}
use Rattle.jr_names.specs.Answered.{Answers}
use Rattle.jr_typing.specs.declared.denotation.Denotation.{Denotation as DenotationTree}
use Rattle.jr_typing.specs.Views.{view_denotation}

view_prefix : (op : Prefix) (e : ExprTree) (at : Span) → view_shape (shape.Prefix op e) at ≡ Prefixed at op (view_expr e)
view_prefix op e at =
    ap (λ x. view_shape x at) (sym (shape.rolls-Prefix op e)) ∙ ap (λ v. v at) (fold-roll-Shape Placed Suffix Expr Placed shape_view suffix_view expr_view quantified_view (layer.Prefix op e))

pub prefix_answered : (scope : Scope) (x : Shape) (op : Prefix) (e : ExprTree) (at : Span) (result : Result DenotationTree Fail) → x ≡ shape.Prefix op e
    → Answers view_denotation (denotes scope (Prefixed at op (view_expr e))) result → Answers view_denotation (denotes scope (view_shape x at)) result
prefix_answered scope x op e at result is h =
    subst (λ (y : Expr). Answers view_denotation (denotes scope y) result) (sym (ap (λ x. view_shape x at) is ∙ view_prefix op e at)) h
