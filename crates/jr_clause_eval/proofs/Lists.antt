-- Places in lists.
use Rattle.std.proofs.Common.{◌≡◌, ◌≢◌, ℕ, zero, suc, ◌-◌, List, ◌∷◌, slice_get, refl, sym, ap, ◌∙◌, arith, Bor}
use Rattle.std.specs.Prelude.{ℤ}
use Rattle.jr_clause_eval.specs.declared.scene.Bindings.{Bindings}
use Rattle.jr_clause_eval.specs.declared.scene.Bindings.TheVariants as bound
use Rattle.jr_clause_eval.specs.declared.scene.Bindings.TheOpen as layer
use Rattle.jr_clause_eval.specs.declared.scene.Bindings.TheFolds.{fold-roll-Bindings}
use Rattle.jr_clause_eval.specs.Scenes.{bindings, bindings_layer}

pub slice_get_behind : {X : Type 0} (x : X) (xs : List X) (n : ℕ) → n ≢ 0 → slice_get (x ∷ xs) n ≡ slice_get xs (n - 1)
slice_get_behind x xs zero h = absurd (h refl)
slice_get_behind x xs (suc n) h = grind arith

pub bindings_inner : (value : ℤ) (outer : Bor Bindings) → bindings (bound.Inner value outer) ≡ value ∷ bindings outer.now
bindings_inner value outer = ap bindings (sym (bound.rolls-Inner value outer)) ∙ fold-roll-Bindings (List ℤ) bindings_layer (layer.Inner value outer)
