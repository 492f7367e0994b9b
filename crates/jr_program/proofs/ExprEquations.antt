-- The view of each node of an expression that has lists in it.
use Rattle.std.proofs.Common.{◌≡◌, List, [], ◌∷◌, ◌++◌, map, refl, sym, ap, ◌∙◌}
use Rattle.jr_base.specs.declared.number.MethodId.{MethodId}
use Rattle.jr_base.specs.declared.number.ClassId.{ClassId}
use Rattle.jr_program.specs.declared.expr.TypedExpr.{TypedExpr, roll-TypedExpr}
use Rattle.jr_program.specs.declared.expr.TypedShape.{TypedShape}
use Rattle.jr_program.specs.declared.expr.TypedShape.TheVariants as shape
use Rattle.jr_program.specs.declared.expr.TypedSuffix.{TypedSuffix}
use Rattle.jr_program.specs.declared.expr.TypedSuffix.TheVariants as suffix
use Rattle.jr_program.specs.declared.expr.TypedShape.TheOpen as layer
use Rattle.jr_program.specs.declared.expr.TypedShape.TheFolds.{fold-roll-TypedExpr, fold-roll-TypedShape, fold-roll-TypedSuffix}
use Rattle.jr_program.specs.Programs.{Expr, Variable, ResultOf, CallStatic, NewObject}
use Rattle.jr_program.specs.ExprViews.{Suffix, Invocation, exprs, applied, onto, shape_view, suffix_view, expr_view, variable_view, view_expr, view_shape, view_suffix}

pub view_node : (x : TypedShape) → view_expr (roll-TypedExpr (record { shape = x })) ≡ view_shape x
view_node x = fold-roll-TypedExpr Expr Suffix Variable Expr shape_view suffix_view variable_view expr_view (record { shape = x })

pub view_suffixed : (x : TypedExpr) (ss : List TypedSuffix) → view_shape (shape.Suffixed x ss) ≡ onto (view_expr x) (map view_suffix ss)
view_suffixed x ss = ap view_shape (sym (shape.rolls-Suffixed x ss)) ∙ fold-roll-TypedShape Expr Suffix Variable Expr shape_view suffix_view variable_view expr_view (layer.Suffixed x ss)

pub view_call_static : (m : MethodId) (es : List TypedExpr) → view_shape (shape.CallStatic m es) ≡ ResultOf (CallStatic m (exprs (map view_expr es)))
view_call_static m es = ap view_shape (sym (shape.rolls-CallStatic m es)) ∙ fold-roll-TypedShape Expr Suffix Variable Expr shape_view suffix_view variable_view expr_view (layer.CallStatic m es)

pub view_new_object : (c : ClassId) (es : List TypedExpr) → view_shape (shape.NewObject c es) ≡ NewObject c (exprs (map view_expr es))
view_new_object c es = ap view_shape (sym (shape.rolls-NewObject c es)) ∙ fold-roll-TypedShape Expr Suffix Variable Expr shape_view suffix_view variable_view expr_view (layer.NewObject c es)

pub view_invocation : (m : MethodId) (es : List TypedExpr) → view_suffix (suffix.Invocation m es) ≡ Invocation m (exprs (map view_expr es))
view_invocation m es = ap view_suffix (sym (suffix.rolls-Invocation m es)) ∙ fold-roll-TypedSuffix Expr Suffix Variable Expr shape_view suffix_view variable_view expr_view (layer.Invocation m es)

-- a suffix more at the end stands above all before it
pub onto_append : (e : Expr) (ss : List Suffix) (s : Suffix) → onto e (ss ++ s ∷ []) ≡ applied (onto e ss) s
onto_append e [] s = refl
onto_append e (x ∷ ss) s = onto_append (applied e x) ss s
