use Rattle.std.proofs.Common.{◌≡◌, ◌≤◌, [], ◌∷◌, length, Some, sym, ap, ◌∙◌, subst, arith, inl, inr}
use Rattle.std.specs.Prelude.{slice_get}
use Rattle.jr_base.specs.declared.kind.SlotKind.TheVariants.{Caught as CaughtKind}
use Rattle.jr_code.specs.WellFormed.{plain_method}
use Rattle.jr_code.specs.Verifier.{CatchDone}
use Rattle.jr_code.proofs.Handlers.{handler_wrong, handler_path, done_reached}
use Rattle.jr_code.proofs.verifier.catch.Goals as goal

pub returns-then-region-n-clause-err : goal.returns-then-region-n-clause-err
returns-then-region-n-clause-err c =
    let r = c.get-region.result.now in
    let over : length c.args.method.now.instrs.items ≤ r.target = omega arith in
    handler_wrong c.args.code.now c.args.method.now c.args.shapes.now c.args.number r.first c.min-past.result c.in-Some._at r c.in-Catch._fault
    c.get-region.ensures c.in-Catch.is c.requires.sound (omega arith) (omega arith) c.in-Some.ensures (inr over)

pub returns-in-Some-touched-clause-err : goal.returns-in-Some-touched-clause-err
returns-in-Some-touched-clause-err c =
    let r = c.get-region.result.now in
    let t = c.in-Some-touched.ensures in
    let low : c.max.result ≤ c.in-Some-touched._behind = t.1 in
    handler_wrong c.args.code.now c.args.method.now c.args.shapes.now c.args.number c.max.result c.min-past.result c.in-Some-touched._behind r c.in-Catch._fault
    c.get-region.ensures c.in-Catch.is c.requires.sound (omega arith) (omega arith) t (inl (omega arith))

pub reach-requires-clause-path : goal.reach-requires-clause-path
reach-requires-clause-path c =
    handler_path c.args.code.now c.args.method.now c.args.shapes.now c.args.number c.min-past.result c.in-Some._at c.get-region.result.now c.in-Catch._fault c.set.new.self
    c.get-region.ensures c.in-Catch.is c.requires.sound (omega arith) c.in-Some.ensures
    c.in_ok-set.ensures

pub returns-else-branch-clause-ok : goal.returns-else-branch-clause-ok
returns-else-branch-clause-ok c =
    let r = c.get-region.result.now in
    let reached = c.in_ok-reach.ensures.ok in
    let same : c.reach.new.shapes ≡ c.args.shapes.now = reached.same c.if-branch.false in
    let kinds : c.set.new.self ≡ CaughtKind ∷ [] = c.in_ok-set.ensures in
    let there : slice_get c.args.shapes.now r.target ≡ Some (Some (CaughtKind ∷ [])) =
    subst (λ s. slice_get s r.target ≡ Some (Some (CaughtKind ∷ []))) same (reached.stands ∙ ap (λ l. Some (Some l)) kinds) in (
      same,
      subst (λ s. CatchDone (plain_method c.args.code.now c.args.method.now) s c.args.number) (sym same)
          (done_reached c.args.code.now c.args.method.now c.args.shapes.now c.args.number c.min-past.result c.max.result r c.in-Catch._fault
          c.get-region.ensures c.in-Catch.is (omega arith) (omega arith) c.in_default-touched-2.ensures there),
    )
