use Rattle.std.proofs.Common.{◌≡◌, ap, ◌∙◌, sym}
use Rattle.jr_program.specs.StatementViews.{view_stmt}
use Rattle.jr_ast.specs.Units as unit
use Rattle.jr_typing_rules.specs.Answers.{Good}
use Rattle.jr_typing_rules.specs.Statements.{Frame, Made}
use Rattle.jr_typing_rules.specs.Declarations.{MadeMethod, first_state, formal_variables}
use Rattle.jr_typing.specs.MadeViews.{view_counts}
use Rattle.jr_typing.specs.StatementViews.{body_typed, view_frame, view_state, view_texts}
use Rattle.jr_typing.proofs.Headings.{first_known, made_alike, typed_as, typed_made}
use Rattle.jr_typing.proofs.coded.Coded.typed_method.Goals as goal

pub returns : goal.returns
returns c =
    let m = unit.view_method c.args.method.now in
    let made : Made = record { state = view_state c.body_of.new.state; statement = view_stmt c.in_ok-body.body } in
    let before_body : view_state c.in_ok-state.state ≡ first_state m c.args.types.now =
    first_known m c.args.types.now c.as_slice.result.now c.as_slice-2.result.now c.in_ok-formals.formals c.in_ok-kinds_of.field-0 (view_state c.in_ok-state.state)
    c.in_ok-state.ensures c.as_slice-2.ensures c.in_ok-formals.ensures c.as_slice.ensures c.in_ok-kinds_of.ensures in
    let typed : body_typed (view_frame c.in_ok-frame.frame) (view_state c.in_ok-state.state) m.body ≡ Good made = rw (← c.as_slice-3.ensures) c.in_ok-body.ensures in
    typed_made c.args.home.now.names.now.names c.args.home.now.own (view_counts c.args.self.now.counts) m c.args.of c.args.types.now
    (view_frame c.in_ok-frame.frame) (view_state c.in_ok-state.state) made c.in_ok-frame.ensures before_body typed
    ∙ ap (λ (x : MadeMethod). typed_as x (view_texts c.body_of.new.state.texts))
    (sym (made_alike _ _ _ _ _ _ _ _ _ _ _ _ _ _ _ _ (ap (λ (f : Frame). f.is_static) c.in_ok-frame.ensures) c.is_constructor.ensures
    (c.in_ok-formals.ensures ∙ ap (λ fs. formal_variables 0 fs c.args.types.now) c.as_slice.ensures) c.in_ok-formal_kinds.ensures))
