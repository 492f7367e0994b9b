-- The room that a method's operands need.
use Rattle.std.proofs.Common.{◌≡◌, ℕ, zero, suc, ◌+◌, ◌≤◌, ◌⊎◌, List, [], ◌∷◌, ◌++◌, length, Option, Some, None, refl, ap, subst, arith, inl, inr, ⊎_elim}
use Rattle.std.specs.Prelude.{slice_get}
use Rattle.jr_base.specs.declared.kind.SlotKind.{SlotKind}
use Rattle.jr_base.specs.declared.number.MethodId.{MethodId}
use Rattle.jr_base.specs.Content.{Content}
use Rattle.jr_code.specs.declared.code.Code.{Code as CodeOfLists}
use Rattle.jr_code.specs.Instructions.{MethodCode, Code}
use Rattle.jr_code.specs.Machine.{StackFrame}
use Rattle.jr_code.specs.Checked.{kinds_with, MethodRight}
use Rattle.jr_code.specs.Depth.{IsDepth, IsDepthOf, AreDepths}
use Rattle.jr_code.specs.Sound.{AreOf, RunsAt, WaitsAt}
use Rattle.jr_code.specs.Verifier.{OnPaths, IsDeepest}
use Rattle.jr_code.specs.Views.{plain_of}
use Rattle.jr_code.proofs.Paths.{stands_on_path}
use Rattle.jr_code.proofs.WellFormed.{method_there}

-- the most operands at a place that the verifier finds are the most that a path brings
pub depth_found : (code : Code) (c : MethodCode) (right : MethodRight code c) (depth : ℕ) → OnPaths code c right.shapes → IsDeepest right.shapes depth → IsDepth code c depth
depth_found code c right depth sound deepest = record {
  enough = λ at ks path. deepest.most at ks (stands_on_path code c right at ks path);
  needed = (deepest.some.0, deepest.some.1, sound deepest.some.0 deepest.some.1 deepest.some.2, deepest.some.3);
}

as_many : (ks : List SlotKind) (stack : List Content) → AreOf ks stack → length stack ≡ length ks
as_many [] [] h = refl
as_many [] (c ∷ stack) h = absurd h
as_many (k ∷ ks) [] h = absurd h
as_many (k ∷ ks) (c ∷ stack) h = omega (arith, as_many ks stack h.1)

with_result : (result : Option SlotKind) (ks : List SlotKind) → length ks ≤ length (kinds_with result ks)
with_result None ks = omega arith
with_result (Some k) ks = omega arith

pub runs_within : (code : Code) (f : StackFrame) (depth : ℕ) → RunsAt code f → IsDepthOf code f.method depth → length f.stack ≤ depth
runs_within code f depth x d =
    let enough = (d x.c x.is_method).enough f.at x.kinds x.path in
    omega (arith, as_many x.kinds f.stack x.stack)

pub waits_within : (code : Code) (r : Option SlotKind) (f : StackFrame) (depth : ℕ) → WaitsAt code r f → IsDepthOf code f.method depth → length f.stack ≤ depth
waits_within code r f depth x d =
    let enough = (d x.c x.is_method).enough (f.at + 1) (kinds_with r x.kinds) x.onward in
    omega (arith, as_many x.kinds f.stack x.stack, with_result r x.kinds)

-- where one more depth stands behind the others
pub pushed_at : (ds : List ℕ) (d k e : ℕ) → slice_get (ds ++ d ∷ []) k ≡ Some e → ((k ≡ length ds) × (d ≡ e)) ⊎ (slice_get ds k ≡ Some e)
pushed_at [] d zero e h = inl (refl, cc)
pushed_at [] d (suc k) e h = absurd (cc)
pushed_at (x ∷ ds) d zero e h = inr h
pushed_at (x ∷ ds) d (suc k) e h = ⊎_elim (λ p. inl (ap suc p.0, p.1)) (λ p. inr p) (pushed_at ds d k e h)

pub depth_kept : (code : CodeOfLists) (depths : List ℕ) (m : MethodId) (depth : ℕ) → AreDepths code depths → slice_get depths m.0 ≡ Some depth → IsDepthOf (plain_of code) m depth
depth_kept code depths m depth kept here c e =
    let l = method_there code m c e in
    subst (λ c. IsDepth (plain_of code) c depth) l.2 (kept.each m.0 depth l.0 here l.1)
