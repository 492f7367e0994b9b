-- Lists of expressions and suffixes, one more.
use Rattle.std.proofs.Common.{◌≡◌, suc, max, List, [], ◌∷◌, ◌++◌, map, refl, sym, ap, ◌∙◌, arith}
use Rattle.jr_base.specs.declared.number.Span.{Span}
use Rattle.jr_ast.specs.declared.name.Name.{Name}
use Rattle.jr_ast.specs.declared.expr.Expr.{Expr as Tree}
use Rattle.jr_ast.specs.declared.expr.Shape.{Shape}
use Rattle.jr_ast.specs.declared.expr.Suffix.{Suffix}
use Rattle.jr_ast.specs.declared.expr.Suffix.TheVariants as suffix
use Rattle.jr_ast.specs.declared.expr.Shape.TheOpen as layer
use Rattle.jr_ast.specs.declared.expr.Shape.TheFolds.{fold-roll-Suffix}
use Rattle.jr_ast.specs.Expressions.{Expr, exprs, view_expr, view_suffix, onto, applied, view_shape, Placed, shape_view, suffix_view, expr_view, quantified_view}
use Rattle.jr_ast.specs.Expressions as e
use Rattle.jr_ast.proofs.Views.{onto_append, view_invocation}
use Rattle.jr_expr_parser.specs.Nesting.{nesting, nesting_in}
use Rattle.jr_expr_parser.specs.Primaries.{whole}

pub nesting_more : (es : List Expr) (a : Expr) → nesting_in (exprs (es ++ a ∷ [])) ≡ max (nesting_in (exprs es)) (suc (nesting a))
nesting_more [] a = omega arith
nesting_more (b ∷ es) a = let h = nesting_more es a in omega arith

pub view_more : (es : List Tree) (a : Tree) → map view_expr (es ++ a ∷ []) ≡ map view_expr es ++ view_expr a ∷ []
view_more [] a = refl
view_more (b ∷ es) a = ap (λ (es : List Expr). view_expr b ∷ es) (view_more es a)

views_more : (ss : List Suffix) (s : Suffix) → map view_suffix (ss ++ s ∷ []) ≡ map view_suffix ss ++ view_suffix s ∷ []
views_more [] s = refl
views_more (r ∷ ss) s = ap (λ (ss : List e.Suffix). view_suffix r ∷ ss) (views_more ss s)

suffix_more : (at : Span) (x : Shape) (ss : List Suffix) (s : Suffix) → whole at x (ss ++ s ∷ []) ≡ applied at (whole at x ss) (view_suffix s)
suffix_more at x ss s = ap (onto at (view_shape x at)) (views_more ss s) ∙ onto_append at (view_shape x at) (map view_suffix ss) (view_suffix s)

view_field : (name : Name) → view_suffix (suffix.Field name) ≡ e.Field name
view_field name = ap view_suffix (sym (suffix.rolls-Field name)) ∙ fold-roll-Suffix Placed e.Suffix Expr Placed shape_view suffix_view expr_view quantified_view (layer.Field name)

view_index : (i : Tree) → view_suffix (suffix.Index i) ≡ e.Index (view_expr i)
view_index i = ap view_suffix (sym (suffix.rolls-Index i)) ∙ fold-roll-Suffix Placed e.Suffix Expr Placed shape_view suffix_view expr_view quantified_view (layer.Index i)

pub field_more : (at : Span) (x : Shape) (ss : List Suffix) (name : Name) → whole at x (ss ++ suffix.Field name ∷ []) ≡ e.FieldOf at (whole at x ss) name
field_more at x ss name = suffix_more at x ss (suffix.Field name) ∙ ap (applied at (whole at x ss)) (view_field name)

pub invocation_more : (at : Span) (x : Shape) (ss : List Suffix) (name : Name) (es : List Tree) → whole at x (ss ++ suffix.Invocation name es ∷ []) ≡ e.CallOf at (whole at x ss) name (exprs (map view_expr es))
invocation_more at x ss name es = suffix_more at x ss (suffix.Invocation name es) ∙ ap (applied at (whole at x ss)) (view_invocation name es)

pub index_more : (at : Span) (x : Shape) (ss : List Suffix) (i : Tree) → whole at x (ss ++ suffix.Index i ∷ []) ≡ e.ElementOf at (whole at x ss) (view_expr i)
index_more at x ss i = suffix_more at x ss (suffix.Index i) ∙ ap (applied at (whole at x ss)) (view_index i)
