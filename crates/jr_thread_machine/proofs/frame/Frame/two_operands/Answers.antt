use Rattle.std.proofs.Common.{◌+◌, ◌∷◌, refl, sym, ap, ◌∙◌}
use Rattle.jr_base.specs.Content.{Holds}
use Rattle.jr_code.specs.Machine.{stack_frame, under, top_content, value_of_content}
use Rattle.jr_thread_machine.specs.Frames.{frame_of}
use Rattle.jr_thread_machine.proofs.Operators.{two_give, two_give_nothing}
use Rattle.jr_thread_machine.proofs.frame.Frame.two_operands.Goals as goal

pub returns-in-Some : goal.returns-in-Some
returns-in-Some c = λ plain.
    let f = c.args.self.now in
    let value = c.in-Some.value in
    let b = value_of_content (top_content f.stack.items) in
    let a = value_of_content (top_content (under f.stack.items)) in
    let stack = ap (λ h. h ∷ c.pop-a.new.self.items) c.of.ensures ∙ ap (λ l. Holds value ∷ l) (c.pop-a.ensures.items ∙ ap under c.pop-b.ensures.items) in
    two_give plain c.args.operator (frame_of f) (frame_of c.push.new.self) a b value refl refl (sym c.in-Some.is ∙ c.apply.ensures)
    (c.push.ensures ∙ ap (λ s. stack_frame f.method f.this (f.at + 1) s f.locals) stack)

pub returns-in-None : goal.returns-in-None
returns-in-None c =
    let f = c.args.self.now in (
      refl,
      two_give_nothing c.args.operator (frame_of f) (value_of_content (top_content (under f.stack.items))) (value_of_content (top_content f.stack.items)) refl refl
          (sym c.in-None.is ∙ c.apply.ensures),
    )
