-- The view of each node of an expression of a clause that has lists in it.
use Rattle.std.proofs.Common.{◌≡◌, Bool, List, [], ◌∷◌, ◌++◌, map, refl, sym, ap, ◌∙◌}
use Rattle.jr_program.specs.declared.clause.ClauseExpr.{ClauseExpr, roll-ClauseExpr}
use Rattle.jr_program.specs.declared.clause.ClauseShape.{ClauseShape}
use Rattle.jr_program.specs.declared.clause.ClauseShape.TheVariants as shape
use Rattle.jr_program.specs.declared.clause.ClauseSuffix.{ClauseSuffix}
use Rattle.jr_program.specs.declared.clause.ClauseShape.TheOpen as layer
use Rattle.jr_program.specs.declared.clause.ClauseShape.TheFolds.{fold-roll-ClauseExpr, fold-roll-ClauseShape}
use Rattle.jr_program.specs.Clauses.{Spec, Truth}
use Rattle.jr_program.specs.ClauseViews.{Suffix, applied, onto, shape_view, suffix_view, quantified_view, expr_view, view_expr, view_shape, view_suffix}

pub view_node : (x : ClauseShape) → view_expr (roll-ClauseExpr (record { shape = x })) ≡ view_shape x
view_node x = fold-roll-ClauseExpr Spec Suffix Spec Spec shape_view suffix_view expr_view quantified_view (record { shape = x })

pub view_suffixed : (x : ClauseExpr) (ss : List ClauseSuffix) → view_shape (shape.Suffixed x ss) ≡ onto (view_expr x) (map view_suffix ss)
view_suffixed x ss = ap view_shape (sym (shape.rolls-Suffixed x ss)) ∙ fold-roll-ClauseShape Spec Suffix Spec Spec shape_view suffix_view expr_view quantified_view (layer.Suffixed x ss)

-- a suffix more at the end stands above all before it
pub onto_append : (e : Spec) (ss : List Suffix) (s : Suffix) → onto e (ss ++ s ∷ []) ≡ applied (onto e ss) s
onto_append e [] s = refl
onto_append e (x ∷ ss) s = onto_append (applied e x) ss s

pub view_truth : (b : Bool) → view_shape (shape.Truth b) ≡ Truth b
view_truth b = ap view_shape (sym (shape.rolls-Truth b)) ∙ fold-roll-ClauseShape Spec Suffix Spec Spec shape_view suffix_view expr_view quantified_view (layer.Truth b)
