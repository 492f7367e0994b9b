-- The view of each form of a statement.
use Rattle.std.proofs.Common.{◌≡◌, List, Option, map, option_map, sym, ap, ◌∙◌}
use Rattle.jr_base.specs.declared.number.Span.{Span}
use Rattle.jr_ast.specs.declared.name.Name.{Name}
use Rattle.jr_ast.specs.declared.expr.Expr.{Expr}
use Rattle.jr_ast.specs.declared.expr.SpecExpr.{SpecExpr}
use Rattle.jr_ast.specs.declared.stmt.Stmt.{Stmt}
use Rattle.jr_ast.specs.declared.stmt.Catch.{Catch, roll-Catch}
use Rattle.jr_ast.specs.declared.stmt.ForLoop.{ForLoop, roll-ForLoop}
use Rattle.jr_ast.specs.declared.stmt.Part.{Part}
use Rattle.jr_ast.specs.declared.stmt.LocalDeclaration.{LocalDeclaration}
use Rattle.jr_ast.specs.declared.stmt.Form.{Form}
use Rattle.jr_ast.specs.declared.stmt.Form.TheVariants as form
use Rattle.jr_ast.specs.declared.stmt.Form.TheOpen as layer
use Rattle.jr_ast.specs.declared.stmt.Form.TheOpen.{Catch-F, ForLoop-F}
use Rattle.jr_ast.specs.declared.stmt.Form.TheFolds.{fold-roll-Form, fold-roll-Catch, fold-roll-ForLoop}
use Rattle.jr_ast.specs.Expressions.{view_expr, view_spec}
use Rattle.jr_ast.specs.Statements.{Stmt as T, Catch as C, Placed, form_view, catch_view, for_view, stmt_view, view_form, view_stmt, view_declarator, view_init, view_part, view_catch, stmts}
use Rattle.jr_ast.specs.Statements as s

pub view_locals_form : (l : LocalDeclaration) (at : Span) → view_form (form.Locals l) at ≡ s.Locals at l.type_name (map view_declarator l.declarators)
view_locals_form l at = ap (λ x. view_form x at) (sym (form.rolls-Locals l)) ∙ ap (λ v. v at) (fold-roll-Form Placed C Placed T form_view catch_view for_view stmt_view (layer.Locals l))

pub view_expression : (e : Expr) (at : Span) → view_form (form.Expression e) at ≡ s.Expression at (view_expr e)
view_expression e at = ap (λ x. view_form x at) (sym (form.rolls-Expression e)) ∙ ap (λ v. v at) (fold-roll-Form Placed C Placed T form_view catch_view for_view stmt_view (layer.Expression e))

pub view_while : (e : Expr) (a : Stmt) (at : Span) → view_form (form.While e a) at ≡ s.While at (view_expr e) (view_stmt a)
view_while e a at = ap (λ x. view_form x at) (sym (form.rolls-While e a)) ∙ ap (λ v. v at) (fold-roll-Form Placed C Placed T form_view catch_view for_view stmt_view (layer.While e a))

pub view_do : (a : Stmt) (e : Expr) (at : Span) → view_form (form.Do a e) at ≡ s.Do at (view_stmt a) (view_expr e)
view_do a e at = ap (λ x. view_form x at) (sym (form.rolls-Do a e)) ∙ ap (λ v. v at) (fold-roll-Form Placed C Placed T form_view catch_view for_view stmt_view (layer.Do a e))

pub view_return : (e : Option Expr) (at : Span) → view_form (form.Return e) at ≡ s.Return at (option_map view_expr e)
view_return e at = ap (λ x. view_form x at) (sym (form.rolls-Return e)) ∙ ap (λ v. v at) (fold-roll-Form Placed C Placed T form_view catch_view for_view stmt_view (layer.Return e))

pub view_throw_new : (x : Name) (at : Span) → view_form (form.ThrowNew x) at ≡ s.ThrowNew at x
view_throw_new x at = ap (λ x. view_form x at) (sym (form.rolls-ThrowNew x)) ∙ ap (λ v. v at) (fold-roll-Form Placed C Placed T form_view catch_view for_view stmt_view (layer.ThrowNew x))

pub view_throw_variable : (x : Name) (at : Span) → view_form (form.ThrowVariable x) at ≡ s.ThrowVariable at x
view_throw_variable x at = ap (λ x. view_form x at) (sym (form.rolls-ThrowVariable x)) ∙ ap (λ v. v at) (fold-roll-Form Placed C Placed T form_view catch_view for_view stmt_view (layer.ThrowVariable x))

pub view_commit : (a : Stmt) (at : Span) → view_form (form.Commit a) at ≡ s.Commit at (view_stmt a)
view_commit a at = ap (λ x. view_form x at) (sym (form.rolls-Commit a)) ∙ ap (λ v. v at) (fold-roll-Form Placed C Placed T form_view catch_view for_view stmt_view (layer.Commit a))

pub view_print : (ps : List Part) (at : Span) → view_form (form.Print ps) at ≡ s.Print at (map view_part ps)
view_print ps at = ap (λ x. view_form x at) (sym (form.rolls-Print ps)) ∙ ap (λ v. v at) (fold-roll-Form Placed C Placed T form_view catch_view for_view stmt_view (layer.Print ps))

pub view_assert : (e : SpecExpr) (at : Span) → view_form (form.Assert e) at ≡ s.Assert at (view_spec e)
view_assert e at = ap (λ x. view_form x at) (sym (form.rolls-Assert e)) ∙ ap (λ v. v at) (fold-roll-Form Placed C Placed T form_view catch_view for_view stmt_view (layer.Assert e))

pub view_catch_record : (c : Catch-F Form Catch ForLoop Stmt) → view_catch (roll-Catch c) ≡ record { class = c.class; variable = c.variable; body = stmts (map view_stmt c.body) }
view_catch_record c = fold-roll-Catch Placed C Placed T form_view catch_view for_view stmt_view c

pub view_for : (f : ForLoop-F Form Catch ForLoop Stmt) (at : Span) → view_form (form.For (roll-ForLoop f)) at ≡ s.For at (view_init f.init) (option_map view_expr f.condition) (map view_expr f.updates) (view_stmt f.body)
view_for f at = ap (λ x. view_form x at) (sym (form.rolls-For (roll-ForLoop f))) ∙ ap (λ v. v at) (fold-roll-Form Placed C Placed T form_view catch_view for_view stmt_view (layer.For (roll-ForLoop f))) ∙ ap (λ v. v at) (fold-roll-ForLoop Placed C Placed T form_view catch_view for_view stmt_view f)
