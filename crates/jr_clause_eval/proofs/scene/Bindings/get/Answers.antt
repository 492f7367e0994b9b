use Rattle.std.proofs.Common.{◌≡◌, ◌∷◌, ap, sym, ◌∙◌, slice_get}
use Rattle.jr_clause_eval.specs.Scenes.{bindings}
use Rattle.jr_clause_eval.proofs.Lists.{slice_get_behind, bindings_inner}
use Rattle.jr_clause_eval.proofs.scene.Bindings.get.Goals as goal

pub loop-at-preserved : goal.loop-at-preserved
loop-at-preserved c =
    let inner : bindings c.loop-at.at.now ≡ c.in-Inner.value ∷ bindings c.in-Inner.outer.now = ap bindings c.in-Inner.is ∙ bindings_inner c.in-Inner.value c.in-Inner.outer in
    sym (slice_get_behind c.in-Inner.value (bindings c.in-Inner.outer.now) c.loop-at.left c.if-left-eq0.false)
    ∙ ap (λ bound. slice_get bound c.loop-at.left) (sym inner) ∙ c.loop-at.invariant
