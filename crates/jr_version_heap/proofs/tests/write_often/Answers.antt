-- Each write takes a version.
use Rattle.std.proofs.Common.{◌∙◌, ap, arith}
use Rattle.jr_version_heap.specs.declared.version.Past.{Past}
use Rattle.jr_version_heap.proofs.Stands.{pinned_was}
use Rattle.jr_version_heap.proofs.tests.write_often.Goals as goal

pub write-requires-clause-pinned : goal.write-requires-clause-pinned
write-requires-clause-pinned c = λ k pinned. absurd (c.loop-step.invariant.3 k pinned)

pub loop-step-preserved : goal.loop-step-preserved
loop-step-preserved c =
    let i = c.loop-step.invariant in
    let w = c.write.ensures in (
      w.layout ∙ i.0,
      (let have = i.1 in let more = c.loop-step-test.true in let count = w.count in let room = w.room in omega (arith, have, more, count, room)),
      (let past = ap (λ (z : Past). z.changes) w.past in omega (arith, past)),
      λ k pinned. i.3 k (pinned_was c.loop-step.heap.pins c.write.new.self.pins k w.pins pinned),
    )
