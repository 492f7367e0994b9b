-- One object after another is made, into room that was reserved for it.
use Rattle.std.proofs.Common.{◌+◌, ◌∙◌, ap, refl, arith, ℕ, List}
use Rattle.jr_heap.specs.declared.layout.Place.{Place}
use Rattle.jr_heap.specs.Layout.{find_object}
use Rattle.jr_version_heap.specs.Histories.{VersionsOf}
use Rattle.jr_version_heap.proofs.Firsts.{begun_empty, begun_more, begun_history, begun_past, all_there}
use Rattle.jr_version_heap.proofs.heap.VersionHeap.new.Goals as goal

pub loop-values-init : goal.loop-values-init
loop-values-init c =
    let e = c.empty-heap.ensures in (refl, begun_empty c.empty-heap.result c.args.first.now e.history e.objects e.pins e.pending e.past)

pub add-requires-clause-absent : goal.add-requires-clause-absent
add-requires-clause-absent c =
    let i = c.loop-values.invariant in
    ap (λ (z : List (ℕ × Place)). find_object z (c.loop-values.number + 1)) c.reserve.ensures.layout_objects
    ∙ i.1.layout.others (record { 0 = c.loop-values.number + 1 }) (omega (arith, i.0))

pub add-requires-clause-later : goal.add-requires-clause-later
add-requires-clause-later c =
    let e = ap (λ (m : VersionsOf). m.past.changes) c.reserve.ensures.same in omega (arith, e, c.loop-values.invariant.1.changes)

pub loop-values-preserved : goal.loop-values-preserved
loop-values-preserved c =
    let i = c.loop-values.invariant in
    let r = c.reserve.ensures in
    let a = c.add.ensures in (
      (let e = i.0 in omega arith),
      begun_more c.loop-values.heap c.reserve.new.self c.add.new.self c.args.first.now c.loop-values.values-index c.loop-values.number _ c.as_slice.result.now c.values-item.result
          i.1 i.0 c.as_slice.ensures (omega (arith, c.loop-values-test.true)) c.values-item.is r.layout_objects r.same r.history a.history a.layout a.pins a.pending a.past,
    )

pub returns-clause-history : goal.returns-clause-history
returns-clause-history c = begun_history c.loop-values.heap c.args.first.now c.loop-values.values-index c.loop-values.invariant.1 c.loop-values-test.false

pub returns-clause-layout : goal.returns-clause-layout
returns-clause-layout c =
    all_there c.loop-values.heap.layout c.args.first.now c.loop-values.values-index c.loop-values.invariant.1.layout
    (let e = c.loop-values-test.false in let f = c.loop-values.auto.values-index-end in omega arith)

pub returns-clause-pins : goal.returns-clause-pins
returns-clause-pins c = c.loop-values.invariant.1.pins

pub returns-clause-pending : goal.returns-clause-pending
returns-clause-pending c = c.loop-values.invariant.1.pending

pub returns-clause-past : goal.returns-clause-past
returns-clause-past c = let i = c.loop-values.invariant.1 in begun_past c.loop-values.heap.past i.changes i.writes
