-- The views of statements as plain data.
use Rattle.std.specs.Prelude.{ℕ, List, [], ◌∷◌, map}
use Rattle.jr_base.specs.declared.finish.Fault.{Fault}
use Rattle.jr_program.specs.Programs.{Part, Literal, Shown, Statement, Catches, Skip, Then, Declare, Do, If, Loop, DoLoop, Break, Continue, Return, ReturnValue, Throw, ThrowCaught, Try, Synchronized, Commit, Println, Assert, no_catch, or_catch}
use Rattle.jr_program.specs.ExprViews.{view_expr, view_effect}
use Rattle.jr_program.specs.declared.stmt.TypedStmt.{TypedStmt}
use Rattle.jr_program.specs.declared.stmt.TypedForm.{TypedForm}
use Rattle.jr_program.specs.declared.stmt.TypedCatch.{TypedCatch}
use Rattle.jr_program.specs.declared.stmt.TypedPart.{TypedPart}
use Rattle.jr_program.specs.declared.stmt.TypedPart.TheVariants as parts
use Rattle.jr_program.specs.declared.stmt.TypedForm.TheOpen.{TypedStmt-F, TypedForm-F, TypedCatch-F}
use Rattle.jr_program.specs.declared.stmt.TypedForm.TheOpen as layer
use Rattle.jr_program.specs.declared.stmt.TypedForm.TheFolds.{fold-TypedStmt, fold-TypedForm, fold-TypedCatch}

-- a catch by itself
pub record Catch : Type 0 where
  pub fault : Fault
  pub number : ℕ
  pub handler : Statement

-- statements one after the other
abbrev pub chained : List Statement → Statement
chained [] = Skip
chained (s ∷ ss) = Then s (chained ss)

abbrev pub catches : List Catch → Catches
catches [] = no_catch
catches (c ∷ cs) = or_catch c.fault c.number c.handler (catches cs)

abbrev pub view_part : TypedPart → Part
view_part (parts.Literal text) = Literal text
view_part (parts.Shown e) = Shown (view_expr e)

-- ---- a node, above the views of what it holds

abbrev pub form_view : TypedForm-F Statement Catch Statement → Statement
form_view layer.Skip = Skip
form_view (layer.Block ss) = chained ss
form_view (layer.Declare number e) = Declare number (view_expr e)
form_view (layer.Do e) = Do (view_effect e)
form_view (layer.If e a b) = If (view_expr e) a b
form_view (layer.Loop e us s) = Loop (view_expr e) (map view_effect us) s
form_view (layer.DoLoop s e) = DoLoop s (view_expr e)
form_view layer.Break = Break
form_view layer.Continue = Continue
form_view layer.Return = Return
form_view (layer.ReturnValue e) = ReturnValue (view_expr e)
form_view (layer.Throw fault) = Throw fault
form_view (layer.ThrowCaught number) = ThrowCaught number
form_view (layer.Try s cs) = Try s (catches cs)
form_view (layer.Synchronized e s) = Synchronized (view_expr e) s
form_view (layer.Commit s) = Commit s
form_view (layer.Println ps) = Println (map view_part ps)
form_view (layer.Assert clause numbers) = Assert clause numbers

abbrev pub catch_view : TypedCatch-F Statement Catch Statement → Catch
catch_view c = record { fault = c.fault; number = c.number; handler = c.handler }

abbrev pub stmt_view : TypedStmt-F Statement Catch Statement → Statement
stmt_view s = s.form

-- ---- whole trees

abbrev pub view_stmt : TypedStmt → Statement
view_stmt = fold-TypedStmt Statement Catch Statement form_view catch_view stmt_view

abbrev pub view_form : TypedForm → Statement
view_form = fold-TypedForm Statement Catch Statement form_view catch_view stmt_view

abbrev pub view_catch : TypedCatch → Catch
view_catch = fold-TypedCatch Statement Catch Statement form_view catch_view stmt_view
