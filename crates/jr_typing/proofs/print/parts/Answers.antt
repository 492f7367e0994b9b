use Rattle.std.proofs.Common.{◌≡◌, ℕ, ◌+◌, ◌<◌, List, [], ◌∷◌, ◌++◌, length, get_or, drop, map, Result, Ok, Err, sym, ap, ◌∙◌, subst}
use Rattle.std.specs.Result.{IsErrAnd}
use Rattle.jr_base.specs.declared.refusal.Fail.{Fail}
use Rattle.jr_ast.specs.declared.stmt.Part.{Part as PartTree}
use Rattle.jr_ast.specs.Statements.{view_part as view_source_part}
use Rattle.jr_names.specs.Answered.{Fails}
use Rattle.jr_program.specs.StatementViews.{view_part}
use Rattle.jr_program.specs.declared.stmt.TypedPart.{TypedPart}
use Rattle.jr_typing_rules.specs.Answers.{Typing, Good}
use Rattle.jr_typing_rules.specs.Statements.{Frame, State}
use Rattle.jr_typing.specs.StatementViews.{PartsPrinted, PrintsAll, part_printed, parts_printed, view_frame, view_state}
use Rattle.jr_typing.specs.declared.state.State.{State as StateTree}
use Rattle.jr_typing.proofs.Lists.{map_append}
use Rattle.jr_typing.proofs.Turns.{part_fails, part_goes_on}
use Rattle.jr_typing.proofs.print.parts.Goals as goal

-- an error that is handed on
exits : (whole : Typing PartsPrinted) (r : Result (List TypedPart) Fail) (e : Fail) (new : StateTree) → IsErrAnd r (λ f. f ≡ e) → Fails e whole → PrintsAll whole r new
exits whole (Ok ps) e new h fails = absurd h
exits whole (Err f) e new h fails = subst (λ f. Fails f whole) (sym h) fails

fails_at : (frame : Frame) (before : PartsPrinted) (all : List PartTree) (x : PartTree) (k : ℕ) (whole : Typing PartsPrinted) (e : Fail)
    → parts_printed frame before (map view_source_part (drop k all)) ≡ whole → k < length all → x ≡ get_or all k x → Fails e (part_printed frame before.state (view_source_part x)) → Fails e whole
fails_at frame before all x k whole e so_far below is fails =
    part_fails frame before all x k whole e so_far below (subst (λ (y : PartTree). Fails e (part_printed frame before.state (view_source_part y))) is fails)

goes_on_at : (frame : Frame) (before after : State) (made more : List TypedPart) (p : TypedPart) (all : List PartTree) (x : PartTree) (k : ℕ) (whole : Typing PartsPrinted)
    → parts_printed frame (record { state = before; parts = map view_part made }) (map view_source_part (drop k all)) ≡ whole → k < length all → x ≡ get_or all k x
    → part_printed frame before (view_source_part x) ≡ Good (record { state = after; part = view_part p }) → more ≡ made ++ p ∷ []
    → parts_printed frame (record { state = after; parts = map view_part more }) (map view_source_part (drop (k + 1) all)) ≡ whole
goes_on_at frame before after made more p all x k whole so_far below is good pushed =
    ap (λ ps. parts_printed frame (record { state = after; parts = ps }) (map view_source_part (drop (k + 1) all))) (ap (λ ps. map view_part ps) pushed ∙ map_append view_part made p)
    ∙ part_goes_on frame (record { state = before; parts = map view_part made }) all x k whole (record { state = after; part = view_part p }) so_far below
    (subst (λ (y : PartTree). part_printed frame before (view_source_part y) ≡ Good (record { state = after; part = view_part p })) is good)

pub returns-in_err-part : goal.returns-in_err-part
returns-in_err-part c =
    exits _ _ _ _ c.from_residual.ensures.1
    (fails_at (view_frame c.args.frame.now) (record { state = view_state c.loop-one.state; parts = map view_part c.loop-one.made }) c.args.all.now c.one-item.result c.loop-one.one-index _ _ c.loop-one.invariant c.loop-one-test.true c.one-item.is c.in_err-part.ensures)

pub loop-one-preserved : goal.loop-one-preserved
loop-one-preserved c =
    goes_on_at (view_frame c.args.frame.now) (view_state c.loop-one.state) (view_state c.part.new.state) c.loop-one.made c.push.new.self c.in_ok-part.field-0 c.args.all.now c.one-item.result c.loop-one.one-index _ c.loop-one.invariant c.loop-one-test.true c.one-item.is c.in_ok-part.ensures c.in_ok-push.ensures.ok
