use Rattle.std.proofs.Common.{◌≡◌, ℕ, ◌+◌, ◌<◌, [], ◌∷◌, ◌++◌, length, Some, sym, ap, ◌∙◌, subst, arith, rules, ⊎_elim, length-append}
use Rattle.std.specs.Prelude.{slice_get}
use Rattle.std.proofs.lemmas.Option.{slice_get_within}
use Rattle.jr_base.specs.declared.number.MethodId.{MethodId}
use Rattle.jr_code.specs.declared.code.Code.{Code}
use Rattle.jr_code.specs.declared.code.MethodCode.{MethodCode}
use Rattle.jr_code.specs.declared.shapes.Stop.{Stop}
use Rattle.jr_code.specs.declared.shapes.Stop.TheVariants.{Broken, Memory}
use Rattle.jr_code.specs.Told.{Told, fail_of}
use Rattle.jr_code.specs.Depth.{IsDepth}
use Rattle.jr_code.specs.Verifier.{Tells}
use Rattle.jr_code.specs.Views.{plain_of}
use Rattle.jr_code.specs.WellFormed.{plain_method, WellFormedMethod}
use Rattle.jr_code.proofs.Depths.{pushed_at}
use Rattle.jr_code.proofs.Leaving.{before_or_there}
use Rattle.jr_code.proofs.Paths.{some_one}
use Rattle.jr_code.proofs.checking.check.Goals as goal

same_method : (code : Code) (k n : ℕ) (a b : MethodCode) → k ≡ n → slice_get code.methods.items n ≡ Some a → slice_get code.methods.items k ≡ Some b → a ≡ b
same_method code k n a b q e f = some_one a b (sym e ∙ subst (λ k. slice_get code.methods.items k ≡ Some b) q f)

told : (code : Code) (n : MethodId) (m : MethodCode) (stop : Stop) → slice_get code.methods.items n.0 ≡ Some m → Tells code m stop → Told code (fail_of n stop)
told code n m (Broken at) e h = record { method = m; stands = e; breaks = h }
told code n m Memory e h = tt

pub returns-in-Err-clause-bad : goal.returns-in-Err-clause-bad
returns-in-Err-clause-bad c =
    subst (Told c.args.code) (sym c.fail.ensures) (told c.args.code (record { 0 = c.loop-number.number }) c.get.result.now c.in-Err.stop c.get.ensures c.in-Err.ensures.err)

pub loop-number-preserved : goal.loop-number-preserved
loop-number-preserved c =
    let kept : c.push.new.self.items ≡ c.loop-number.depths.items ++ c.in-Ok.depth ∷ [] = search rules in
    record {
      right = λ k m h e.
          ⊎_elim (λ (l : k < c.loop-number.number). c.loop-number.invariant.right k m l e)
          (λ (q : k ≡ c.loop-number.number).
          subst (WellFormedMethod c.args.code) (same_method c.args.code k c.loop-number.number c.get.result.now m q c.get.ensures e) c.in-Ok.ensures.ok)
          (before_or_there k c.loop-number.number h);
      size = ap length kept ∙ length-append c.loop-number.depths.items (c.in-Ok.depth ∷ []) ∙ ap (λ n. n + 1) c.loop-number.invariant.size;
      depths = λ k depth m d e.
          ⊎_elim
          (λ h. subst (λ m. IsDepth (plain_of c.args.code) (plain_method c.args.code m) depth)
          (same_method c.args.code k c.loop-number.number c.get.result.now m (h.0 ∙ c.loop-number.invariant.size) c.get.ensures e)
          (subst (IsDepth (plain_of c.args.code) (plain_method c.args.code c.get.result.now)) h.1 c.in-Ok.ensures.depth))
          (λ h. c.loop-number.invariant.depths k depth m h e)
          (pushed_at c.loop-number.depths.items c.in-Ok.depth k depth (subst (λ ds. slice_get ds k ≡ Some depth) kept d));
    }

pub invariant_of-result : goal.invariant_of-result
invariant_of-result c =
    let all : c.loop-number.number ≡ length c.args.code.methods.items = omega arith in (
      record {
        methods = λ at m e.
            let within = slice_get_within c.args.code.methods.items at m e in
            c.loop-number.invariant.right at m (omega arith) e;
      },
      record { size = c.loop-number.invariant.size ∙ all; each = c.loop-number.invariant.depths },
    )
