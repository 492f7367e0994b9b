use Rattle.std.proofs.Common.{◌≡◌, ◌≢◌, ◌↔◌, ◌+◌, length, get_or, Contains, refl, sym, ◌∙◌, ap, subst, arith}
use Rattle.jr_base.specs.declared.number.ObjId.{ObjId}
use Rattle.jr_base.specs.Rising.{IsRising}
use Rattle.jr_monitors.specs.Roster.{Without}
use Rattle.jr_monitors.proofs.Locks.{Among, not_before, left_more, left_out, left_all, apart_by_test, same_by_test}
use Rattle.jr_monitors.proofs.owners.without.Goals as goal
use Rattle.jr_monitors.proofs.owners.without.Goals.{then-ne, else-ne}

pub add-requires-clause-absent : goal.add-requires-clause-absent
add-requires-clause-absent c =
    let s = c.as_slice-other-items in
    λ held. not_before s.result.now c.loop-other.other-index _ _ (subst IsRising (sym s.ensures.objects) s.ensures.rising) c.loop-other-test.true refl ((c.loop-other.invariant.same _).0 held).1

pub loop-other-preserved : goal.loop-other-preserved
loop-other-preserved c =
    let s = c.as_slice-other-items in let l = c.loop-other in
    elim c.if-ne.branch [
      | then-ne w ↦
          let apart = apart_by_test (get_or s.result.now l.other-index (record { 0 = 0 })) c.args.object (sym c.ne.ensures ∙ w.if-ne.true) in
          record {
            same = subst (λ left. (o : ObjId) → Contains left o ↔ ((o ≢ c.args.object) × Among s.result.now (l.other-index + 1) o)) (sym w.left-is)
                (left_more l.left w.add.new.self s.result.now l.other-index c.args.object _ _ c.loop-other-test.true refl apart l.invariant.same w.add.ensures.members);
            rises = subst IsRising (sym w.left-is) w.add.ensures.rising;
            few = (let e = ap length w.left-is in let f = l.invariant.few in omega (arith, e, f, w.add.ensures.count));
          }
      | else-ne w ↦
          let is = same_by_test (get_or s.result.now l.other-index (record { 0 = 0 })) c.args.object (sym c.ne.ensures ∙ w.if-ne.false) in
          record {
            same = subst (λ left. (o : ObjId) → Contains left o ↔ ((o ≢ c.args.object) × Among s.result.now (l.other-index + 1) o)) (sym w.left-is)
                (left_out l.left s.result.now l.other-index c.args.object _ _ c.loop-other-test.true refl is l.invariant.same);
            rises = subst IsRising (sym w.left-is) l.invariant.rises;
            few = (let e = ap length w.left-is in let f = l.invariant.few in omega (arith, e, f));
          }
    ]

pub returns : goal.returns
returns c =
    let s = c.as_slice-other-items in let l = c.loop-other in
    let all : l.other-index ≡ length s.result.now = omega (arith, c.loop-other-test.false, l.auto.other-index-end) in
    subst (λ xs. Without xs c.args.object l.left) s.ensures.objects
    (left_all l.left s.result.now c.args.object (subst (λ n. (o : ObjId) → Contains l.left o ↔ ((o ≢ c.args.object) × Among s.result.now n o)) all l.invariant.same))
