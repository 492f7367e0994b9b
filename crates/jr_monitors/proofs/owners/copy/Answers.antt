use Rattle.std.proofs.Common.{◌≡◌, ◌↔◌, length, Contains, refl, sym, ◌∙◌, subst, arith}
use Rattle.jr_base.specs.declared.number.ObjId.{ObjId}
use Rattle.jr_base.specs.Rising.{IsRising}
use Rattle.jr_monitors.proofs.Locks.{Among, not_before, copied_more, copied_all}
use Rattle.jr_monitors.proofs.owners.copy.Goals as goal

pub add-requires-clause-absent : goal.add-requires-clause-absent
add-requires-clause-absent c =
    let s = c.as_slice-object-items in
    λ held. not_before s.result.now c.loop-object.object-index _ _ (subst IsRising (sym s.ensures.objects) s.ensures.rising) c.loop-object-test.true refl ((c.loop-object.invariant.same _).0 held)

pub loop-object-preserved : goal.loop-object-preserved
loop-object-preserved c = record {
  same = copied_more c.loop-object.copy c.add.new.self c.as_slice-object-items.result.now c.loop-object.object-index _ _ c.loop-object-test.true refl c.loop-object.invariant.same c.add.ensures.members;
  rises = c.add.ensures.rising;
  few = omega arith;
}

pub returns : goal.returns
returns c =
    let s = c.as_slice-object-items in let l = c.loop-object in
    let all : l.object-index ≡ length s.result.now = omega (arith, c.loop-object-test.false, l.auto.object-index-end) in
    copied_all l.copy s.result.now l.invariant.rises (subst IsRising (sym s.ensures.objects) s.ensures.rising)
    (subst (λ n. (o : ObjId) → Contains l.copy o ↔ Among s.result.now n o) all l.invariant.same) ∙ s.ensures.objects
