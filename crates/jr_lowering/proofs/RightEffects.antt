-- At each place of the code of what stands as a statement by itself, and of what is printed, the operands have the right
-- kinds.
use Rattle.std.proofs.Common.{◌≡◌, ℕ, ◌+◌, Bool, List, [], ◌∷◌, ◌++◌, Some, None, refl, arith}
use Rattle.std.specs.Prelude.{slice_get}
use Rattle.jr_base.specs.declared.kind.SlotKind.{SlotKind}
use Rattle.jr_base.specs.declared.kind.SlotKind.TheVariants.{Int, Long, Ref as Reference}
use Rattle.jr_program.specs.Programs.{Expr, Part, Literal, Shown, Effect as EffectTree, Evaluate, Invoke, CallObject, WaitFor, Yield, Sleep}
use Rattle.jr_program.specs.WellFormed.{Scope, HasKind, EffectFits, EffectsFit, PartsFit}
use Rattle.jr_code.specs.Instructions.{Instruction, Pop, OnObject, WaitForTime, SleepFor, YieldNow, MethodCode, Code}
use Rattle.jr_code.specs.Checked.{kinds_pushed, Effect, GoesTo}
use Rattle.jr_lowering.specs.ExprCode.{Setting, expr_size, expr_code}
use Rattle.jr_lowering.specs.StatementCode.{effect_size, effect_code, effects_size, effects_code, parts_size, parts_code}
use Rattle.jr_lowering.proofs.Places.{HasAt, has_front, has_back, expr_len, effect_len}
use Rattle.jr_lowering.proofs.Expressions.{setting_in}
use Rattle.jr_lowering.proofs.Statements.{flags}
use Rattle.jr_lowering.proofs.Shapes.{Marks, ShapesAt, shapes_front, shapes_back, expr_shapes, effect_shapes, effects_shapes, parts_shapes, parts_kinds, expr_shapes_len, effect_shapes_len}
use Rattle.jr_lowering.proofs.RightExpressions.{Known, Good, join, nothing, single, next, expr_right, call_right}

module _ (base : Scope) (code : Code) (c : MethodCode) (room : ℕ) (known : Known base code c room) (shapes : Marks) where
  abbrev is : List Instruction
  is = c.instructions

  abbrev st : Setting
  st = setting_in base

  abbrev Well : ℕ → ℕ → List SlotKind → Type 0
  Well lo hi ks = Good base code c room known shapes lo hi ks

  abbrev one : (i : Instruction) (at to : ℕ) (before after : List SlotKind) → at + 1 ≡ to → slice_get is at ≡ Some i → slice_get shapes at ≡ Some (Some before) → Effect code c i before after → GoesTo shapes at i after → Well at to before
  one = single base code c room known shapes

  abbrev then_well : {a b d : ℕ} {ks js : List SlotKind} → Well a b ks → Well b d js → Well a d ks
  then_well = join base code c room known shapes

  abbrev behind : (at to : ℕ) (ks : List SlotKind) → at + 1 ≡ to → slice_get shapes to ≡ Some (Some ks) → slice_get shapes (at + 1) ≡ Some (Some ks)
  behind = next base code c room known shapes

  pub expr_well : (l : Bool) (e : Expr) (k : SlotKind) (has : HasKind (flags base l) e k) (at to : ℕ) → at + expr_size st.program e ≡ to → HasAt is at (expr_code st e at) → ShapesAt shapes at (expr_shapes (flags base l) e k has []) → slice_get shapes to ≡ Some (Some (k ∷ [])) → Well at to []
  expr_well l e k has at to len x h out = expr_right base code c room known shapes l e k has at to len [] x h out

  pub parts_right : (l : Bool) (parts : List Part) (has : PartsFit (flags base l) parts) (at to : ℕ) → at + parts_size st.program parts ≡ to → (ks : List SlotKind) → HasAt is at (parts_code st parts at) → ShapesAt shapes at (parts_shapes (flags base l) parts has ks) → slice_get shapes to ≡ Some (Some (kinds_pushed (parts_kinds (flags base l) parts has) ks)) → Well at to ks
  parts_right l [] has at to e ks x h out = nothing base code c room known shapes at to ks (omega arith) out
  parts_right l (Literal text ∷ parts) has at to e ks x h out = parts_right l parts has.1 at to e ks x h out
  parts_right l (Shown y ∷ parts) has at to e ks x h out =
      let n = expr_size st.program y in
      let s = flags base l in
      let x2 = has_back is at (expr_code st y at) _ n (expr_len st y at) x in
      let h2 = shapes_back shapes at (expr_shapes s y has.0.0 has.0.1 ks) _ n (expr_shapes_len s y has.0.0 has.0.1 ks) h in
      let others = parts_right l parts has.1 (at + n) to (omega arith) (has.0.0 ∷ ks) x2 h2 out in
      then_well (expr_right base code c room known shapes l y has.0.0 has.0.1 at (at + n) refl ks (has_front is at (expr_code st y at) _ x) (shapes_front shapes at (expr_shapes s y has.0.0 has.0.1 ks) _ h) others.first) others

  -- an expression, and one instruction that takes its value and falls
  pub uses : (l : Bool) (e : Expr) (k : SlotKind) (has : HasKind (flags base l) e k) (i : Instruction) (at to : ℕ) → at + expr_size st.program e + 1 ≡ to → HasAt is at (expr_code st e at ++ i ∷ []) → ShapesAt shapes at (expr_shapes (flags base l) e k has [] ++ (k ∷ []) ∷ []) → Effect code c i (k ∷ []) [] → (slice_get shapes (at + expr_size st.program e + 1) ≡ Some (Some []) → GoesTo shapes (at + expr_size st.program e) i []) → slice_get shapes to ≡ Some (Some []) → Well at to []
  uses l e k has i at to len x h effect goes out =
      let n = expr_size st.program e in
      let s = flags base l in
      let x2 = has_back is at (expr_code st e at) _ n (expr_len st e at) x in
      let h2 = shapes_back shapes at (expr_shapes s e k has []) _ n (expr_shapes_len s e k has []) h in
      then_well (expr_well l e k has at (at + n) refl (has_front is at (expr_code st e at) _ x) (shapes_front shapes at (expr_shapes s e k has []) _ h) h2.0)
      (one i (at + n) to (k ∷ []) [] len x2.0 h2.0 effect (goes (behind (at + n) to [] len out)))

  pub effect_right : (l : Bool) (effect : EffectTree) (has : EffectFits (flags base l) effect) (at to : ℕ) → at + effect_size st.program effect ≡ to → HasAt is at (effect_code st effect at) → ShapesAt shapes at (effect_shapes (flags base l) effect has) → slice_get shapes to ≡ Some (Some []) → Well at to []
  effect_right l (Evaluate e) has at to len x h out = uses l e has.0 has.1 Pop at to (omega arith) x h (has.0, refl) (λ g. g) out
  effect_right l (Invoke call) has at to len x h out = call_right base code c room known shapes l call None has at to len [] x h out
  effect_right l (CallObject called e) has at to len x h out = uses l e Reference has (OnObject called) at to (omega arith) x h refl (λ g. g) out
  effect_right l (WaitFor e time) has at to len x h out =
      let n = expr_size st.program e in let nt = expr_size st.program time in
      let s = flags base l in
      let x2 = has_back is at (expr_code st e at) _ n (expr_len st e at) x in
      let x3 = has_back is (at + n) (expr_code st time (at + n)) _ nt (expr_len st time (at + n)) x2 in
      let h2 = shapes_back shapes at (expr_shapes s e Reference has.0 []) _ n (expr_shapes_len s e Reference has.0 []) h in
      let h3 = shapes_back shapes (at + n) (expr_shapes s time Long has.1 (Reference ∷ [])) _ nt (expr_shapes_len s time Long has.1 (Reference ∷ [])) h2 in
      let second = expr_right base code c room known shapes l time Long has.1 (at + n) (at + n + nt) refl (Reference ∷ []) (has_front is (at + n) (expr_code st time (at + n)) _ x2) (shapes_front shapes (at + n) (expr_shapes s time Long has.1 (Reference ∷ [])) _ h2) h3.0 in
      then_well (expr_well l e Reference has.0 at (at + n) refl (has_front is at (expr_code st e at) _ x) (shapes_front shapes at (expr_shapes s e Reference has.0 []) _ h) second.first)
      (then_well second (one WaitForTime (at + n + nt) to (Long ∷ (Reference ∷ [])) [] (omega arith) x3.0 h3.0 refl (behind (at + n + nt) to [] (omega arith) out)))
  effect_right l Yield has at to len x h out = one YieldNow at to [] [] len x.0 h.0 refl (behind at to [] len out)
  effect_right l (Sleep e) has at to len x h out = uses l e Int has SleepFor at to (omega arith) x h refl (λ g. g) out

  pub effects_right : (l : Bool) (effects : List EffectTree) (has : EffectsFit (flags base l) effects) (at to : ℕ) → at + effects_size st.program effects ≡ to → HasAt is at (effects_code st effects at) → ShapesAt shapes at (effects_shapes (flags base l) effects has) → slice_get shapes to ≡ Some (Some []) → Well at to []
  effects_right l [] has at to len x h out = nothing base code c room known shapes at to [] (omega arith) out
  effects_right l (effect ∷ effects) has at to len x h out =
      let s = flags base l in
      let n = effect_size st.program effect in
      let x2 = has_back is at (effect_code st effect at) _ n (effect_len st effect at) x in
      let h2 = shapes_back shapes at (effect_shapes s effect has.0) _ n (effect_shapes_len s effect has.0) h in
      let others = effects_right l effects has.1 (at + n) to (omega arith) x2 h2 out in
      then_well (effect_right l effect has.0 at (at + n) refl (has_front is at (effect_code st effect at) _ x) (shapes_front shapes at (effect_shapes s effect has.0) _ h) others.first) others
