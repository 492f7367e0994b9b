use Rattle.std.proofs.Common.{◌≡◌, ℕ, ◌+◌, ◌<◌, Bool, List, [], ◌∷◌, ◌++◌, length, get_or, drop, map, option_map, Result, sym, ap, ◌∙◌, subst}
use Rattle.jr_base.specs.declared.number.Span.{Span}
use Rattle.jr_base.specs.declared.refusal.Fail.{Fail}
use Rattle.jr_ast.specs.declared.stmt.Catch.{Catch as CatchTree}
use Rattle.jr_ast.specs.declared.stmt.ForLoop.{ForLoop}
use Rattle.jr_ast.specs.declared.stmt.Form.{Form}
use Rattle.jr_ast.specs.declared.stmt.Form.TheVariants as form
use Rattle.jr_ast.specs.Expressions.{view_expr}
use Rattle.jr_ast.specs.Statements as source
use Rattle.jr_ast.specs.Statements.{view_catch as view_source_catch, view_form, view_init, view_stmt}
use Rattle.jr_program.specs.StatementViews.{view_catch}
use Rattle.jr_program.specs.declared.stmt.TypedCatch.{TypedCatch}
use Rattle.jr_program.specs.declared.stmt.TypedStmt.{TypedStmt}
use Rattle.jr_typing_rules.specs.Answers.{Typing, Good}
use Rattle.jr_typing_rules.specs.Statements.{Frame, State, Caught, typed}
use Rattle.jr_typing.specs.StatementViews.{Steps, caught_one, for_typed, view_frame, view_state}
use Rattle.jr_typing.specs.declared.state.State.{State as StateTree}
use Rattle.jr_typing.proofs.Forms.{view_for}
use Rattle.jr_typing.proofs.Lists.{map_append}
use Rattle.jr_typing.proofs.Turns.{caught_behind, catch_goes_on}
use Rattle.jr_typing.proofs.statement.+typed.Goals as goal

for_typed_at : (frame : Frame) (in_loop : Bool) (state : State) (at : Span) (whole : Form) (f g : ForLoop) (r : Result TypedStmt Fail) (new : StateTree)
    → whole ≡ form.For f → g ≡ f → Steps (for_typed frame state (view_init g.init) (option_map view_expr g.condition) (map view_expr g.updates) (view_stmt g.body)) r new
    → Steps (typed frame in_loop state (view_form whole at)) r new
for_typed_at frame in_loop state at whole f g r new is same made =
    let seen : view_form whole at ≡ source.For at (view_init g.init) (option_map view_expr g.condition) (map view_expr g.updates) (view_stmt g.body) =
    ap (λ x. view_form x at) is ∙ ap (λ (h : ForLoop). view_form (form.For h) at) (sym same) ∙ view_for g at in
    subst (λ (s : source.Stmt). Steps (typed frame in_loop state s) r new) (sym seen) made

goes_on_at : (frame : Frame) (in_loop : Bool) (before after : State) (made more : List TypedCatch) (c : TypedCatch) (all : List CatchTree) (x : CatchTree) (k : ℕ) (whole : Typing Caught)
    → caught_behind frame in_loop (record { state = before; made = map view_catch made }) (map view_source_catch (drop k all)) ≡ whole → k < length all → x ≡ get_or all k x
    → caught_one frame in_loop before (view_source_catch x) ≡ Good (record { state = after; catch = view_catch c }) → more ≡ made ++ c ∷ []
    → caught_behind frame in_loop (record { state = after; made = map view_catch more }) (map view_source_catch (drop (k + 1) all)) ≡ whole
goes_on_at frame in_loop before after made more c all x k whole so_far below is good pushed =
    ap (λ cs. caught_behind frame in_loop (record { state = after; made = cs }) (map view_source_catch (drop (k + 1) all))) (ap (λ cs. map view_catch cs) pushed ∙ map_append view_catch made c)
    ∙ catch_goes_on frame in_loop before after (map view_catch made) (view_catch c) all x k whole so_far below
    (subst (λ (y : CatchTree). caught_one frame in_loop before (view_source_catch y) ≡ Good (record { state = after; catch = view_catch c })) is good)

pub typed_form-returns-in-For : goal.typed_form-returns-in-For
typed_form-returns-in-For t c =
    for_typed_at (view_frame c.args.frame.now) c.args.in_loop (view_state c.args.state.now) c.args.at c.args.form.now c.in-For.head c.get.result.now c.for_loop.result c.for_loop.new.state c.in-For.is c.get.ensures c.for_loop.ensures

pub all_caught-loop-catch-preserved : goal.all_caught-loop-catch-preserved
all_caught-loop-catch-preserved t c =
    goes_on_at (view_frame c.args.frame.now) c.args.in_loop (view_state c.loop-catch.state) (view_state c.caught.new.state) c.loop-catch.made c.push.new.self c.in_ok-caught.field-0 c.args.all.now c.catch-item.result c.loop-catch.catch-index _ c.loop-catch.invariant c.loop-catch-test.true c.catch-item.is c.in_ok-caught.ensures c.in_ok-push.ensures.ok
