-- The view of each node of a statement that has lists in it.
use Rattle.std.proofs.Common.{◌≡◌, List, map, sym, ap, ◌∙◌}
use Rattle.jr_program.specs.declared.stmt.TypedStmt.{TypedStmt, roll-TypedStmt}
use Rattle.jr_program.specs.declared.stmt.TypedForm.{TypedForm}
use Rattle.jr_program.specs.declared.stmt.TypedForm.TheVariants as form
use Rattle.jr_program.specs.declared.stmt.TypedCatch.{TypedCatch}
use Rattle.jr_program.specs.declared.stmt.TypedForm.TheOpen as layer
use Rattle.jr_program.specs.declared.stmt.TypedForm.TheFolds.{fold-roll-TypedStmt, fold-roll-TypedForm}
use Rattle.jr_program.specs.Programs.{Statement, Skip, Try}
use Rattle.jr_program.specs.StatementViews.{Catch, chained, catches, form_view, catch_view, stmt_view, view_stmt, view_form, view_catch}

pub view_node : (x : TypedForm) → view_stmt (roll-TypedStmt (record { form = x })) ≡ view_form x
view_node x = fold-roll-TypedStmt Statement Catch Statement form_view catch_view stmt_view (record { form = x })

pub view_block : (ss : List TypedStmt) → view_form (form.Block ss) ≡ chained (map view_stmt ss)
view_block ss = ap view_form (sym (form.rolls-Block ss)) ∙ fold-roll-TypedForm Statement Catch Statement form_view catch_view stmt_view (layer.Block ss)

pub view_try : (s : TypedStmt) (cs : List TypedCatch) → view_form (form.Try s cs) ≡ Try (view_stmt s) (catches (map view_catch cs))
view_try s cs = ap view_form (sym (form.rolls-Try s cs)) ∙ fold-roll-TypedForm Statement Catch Statement form_view catch_view stmt_view (layer.Try s cs)

pub view_skip : view_form form.Skip ≡ Skip
view_skip = ap view_form (sym form.rolls-Skip) ∙ fold-roll-TypedForm Statement Catch Statement form_view catch_view stmt_view layer.Skip
