use Rattle.std.proofs.Common.{◌≡◌, Bool, true, false, List, [], ◌∷◌, ◌++◌, None, refl, sym, ap, ◌∙◌, subst}
use Rattle.jr_base.specs.declared.kind.SlotKind.{SlotKind}
use Rattle.jr_base.specs.declared.kind.SlotKind.TheVariants.{Ref as Reference}
use Rattle.jr_code.specs.Checked.{this_kind, kinds_pushed}
use Rattle.jr_code.specs.Verifier.{HasChanged}
use Rattle.jr_code.proofs.Forced.{pushed_same}
use Rattle.jr_code.proofs.effects.take_arguments.Goals as goal

-- the object under the arguments
under : (formals before middle after : List SlotKind) (r : Bool) → before ≡ kinds_pushed formals middle →
    HasChanged (Reference ∷ []) None middle after r → HasChanged (Reference ∷ formals) None before after r
under formals before middle after true e h = e ∙ ap (kinds_pushed formals) h
under formals before middle after false e h = λ other x. h other (pushed_same formals formals middle (Reference ∷ other) refl (sym e ∙ x))

pub returns-else-callee : goal.returns-else-callee
returns-else-callee c =
    subst (λ s. HasChanged (this_kind s ++ c.args.callee.now.formals.items) None c.args.kinds.now c.take-else-callee.new.self c.take-else-callee.result) (sym c.if-callee.false)
    (under c.args.callee.now.formals.items c.args.kinds.now c.take.new.self c.take-else-callee.new.self c.take-else-callee.result (c.if-not-take.ensures ∙ ap (λ l. kinds_pushed l c.take.new.self) c.as_slice.ensures) c.take-else-callee.ensures)
