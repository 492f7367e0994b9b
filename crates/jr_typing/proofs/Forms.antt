-- The views of a `for` and of a catch by their parts.
use Rattle.std.proofs.Common.{◌≡◌, List, map, option_map, sym, ap, ◌∙◌}
use Rattle.jr_base.specs.declared.number.Span.{Span}
use Rattle.jr_ast.specs.declared.stmt.ForLoop.{ForLoop}
use Rattle.jr_ast.specs.declared.stmt.Catch.{Catch, out-Catch}
use Rattle.jr_ast.specs.declared.stmt.Form.TheVariants as form
use Rattle.jr_ast.specs.declared.stmt.Form.TheOpen as layer
use Rattle.jr_ast.specs.declared.stmt.Form.TheFolds.{fold-roll-Form, fold_out-Catch, fold_out-ForLoop}
use Rattle.jr_ast.specs.Expressions.{view_expr}
use Rattle.jr_ast.specs.Statements.{Stmt, Catch as C, Placed, For, stmts, view_init, form_view, catch_view, for_view, stmt_view, view_catch, view_form, view_stmt}

pub view_for : (f : ForLoop) (at : Span) → view_form (form.For f) at ≡ For at (view_init f.init) (option_map view_expr f.condition) (map view_expr f.updates) (view_stmt f.body)
view_for f at =
    ap (λ x. view_form x at) (sym (form.rolls-For f))
    ∙ ap (λ v. v at) (fold-roll-Form Placed C Placed Stmt form_view catch_view for_view stmt_view (layer.For f))
    ∙ ap (λ v. v at) (fold_out-ForLoop Placed C Placed Stmt form_view catch_view for_view stmt_view f)

pub view_catch_parts : (c : Catch) → view_catch c ≡ record { class = (out-Catch c).class; variable = (out-Catch c).variable; body = stmts (map view_stmt (out-Catch c).body) }
view_catch_parts c = fold_out-Catch Placed C Placed Stmt form_view catch_view for_view stmt_view c

pub catch_body : (c : Catch) → (view_catch c).body ≡ stmts (map view_stmt (out-Catch c).body)
catch_body c = ap (λ c. c.body) (view_catch_parts c)
