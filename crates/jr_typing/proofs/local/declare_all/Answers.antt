use Rattle.std.proofs.Common.{◌≡◌, ℕ, ◌+◌, ◌<◌, List, [], ◌∷◌, ◌++◌, length, get_or, drop, map, Result, Ok, Err, sym, ap, ◌∙◌, subst}
use Rattle.std.specs.Result.{IsErrAnd}
use Rattle.jr_base.specs.declared.refusal.Fail.{Fail}
use Rattle.jr_ast.specs.declared.stmt.LocalDeclarator.{LocalDeclarator}
use Rattle.jr_ast.specs.Statements.{view_declarator}
use Rattle.jr_names.specs.Answered.{Fails}
use Rattle.jr_program.specs.StatementViews.{view_stmt}
use Rattle.jr_program.specs.declared.stmt.TypedStmt.{TypedStmt}
use Rattle.jr_typing_rules.specs.Answers.{Typing, Good}
use Rattle.jr_typing_rules.specs.Statements.{Frame, State, Mades, declares_all}
use Rattle.jr_typing_rules.specs.declared.words.ValueType.{ValueType}
use Rattle.jr_typing.specs.StatementViews.{AllSteps, declares_one, view_frame, view_state}
use Rattle.jr_typing.specs.declared.state.State.{State as StateTree}
use Rattle.jr_typing.proofs.Lists.{map_append}
use Rattle.jr_typing.proofs.Turns.{variable_fails, variable_goes_on}
use Rattle.jr_typing.proofs.local.declare_all.Goals as goal

-- an error that is handed on
exits : (whole : Typing Mades) (r : Result (List TypedStmt) Fail) (e : Fail) (new : StateTree) → IsErrAnd r (λ f. f ≡ e) → Fails e whole → AllSteps whole r new
exits whole (Ok ss) e new h fails = absurd h
exits whole (Err f) e new h fails = subst (λ f. Fails f whole) (sym h) fails

fails_at : (frame : Frame) (t : ValueType) (before : Mades) (all : List LocalDeclarator) (x : LocalDeclarator) (k : ℕ) (whole : Typing Mades) (e : Fail)
    → declares_all frame t before (map view_declarator (drop k all)) ≡ whole → k < length all → x ≡ get_or all k x → Fails e (declares_one frame t before.state (view_declarator x)) → Fails e whole
fails_at frame t before all x k whole e so_far below is fails =
    variable_fails frame t before all x k whole e so_far below (subst (λ (y : LocalDeclarator). Fails e (declares_one frame t before.state (view_declarator y))) is fails)

goes_on_at : (frame : Frame) (t : ValueType) (before after : State) (made more : List TypedStmt) (s : TypedStmt) (all : List LocalDeclarator) (x : LocalDeclarator) (k : ℕ) (whole : Typing Mades)
    → declares_all frame t (record { state = before; statements = map view_stmt made }) (map view_declarator (drop k all)) ≡ whole → k < length all → x ≡ get_or all k x
    → declares_one frame t before (view_declarator x) ≡ Good (record { state = after; statement = view_stmt s }) → more ≡ made ++ s ∷ []
    → declares_all frame t (record { state = after; statements = map view_stmt more }) (map view_declarator (drop (k + 1) all)) ≡ whole
goes_on_at frame t before after made more s all x k whole so_far below is good pushed =
    ap (λ ss. declares_all frame t (record { state = after; statements = ss }) (map view_declarator (drop (k + 1) all))) (ap (λ ss. map view_stmt ss) pushed ∙ map_append view_stmt made s)
    ∙ variable_goes_on frame t (record { state = before; statements = map view_stmt made }) all x k whole (record { state = after; statement = view_stmt s }) so_far below
    (subst (λ (y : LocalDeclarator). declares_one frame t before (view_declarator y) ≡ Good (record { state = after; statement = view_stmt s })) is good)

pub returns-in_err-declare : goal.returns-in_err-declare
returns-in_err-declare c =
    exits _ _ _ _ c.from_residual.ensures.1
    (fails_at (view_frame c.args.frame.now) c.args.of (record { state = view_state c.loop-declarator.state; statements = map view_stmt c.loop-declarator.made }) c.args.all.now c.declarator-item.result c.loop-declarator.declarator-index _ _ c.loop-declarator.invariant c.loop-declarator-test.true c.declarator-item.is c.in_err-declare.ensures)

pub loop-declarator-preserved : goal.loop-declarator-preserved
loop-declarator-preserved c =
    goes_on_at (view_frame c.args.frame.now) c.args.of (view_state c.loop-declarator.state) (view_state c.declare.new.state) c.loop-declarator.made c.push.new.self c.in_ok-declare.field-0 c.args.all.now c.declarator-item.result c.loop-declarator.declarator-index _ c.loop-declarator.invariant c.loop-declarator-test.true c.declarator-item.is c.in_ok-declare.ensures c.in_ok-push.ensures.ok
