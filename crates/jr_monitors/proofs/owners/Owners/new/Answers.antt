use Rattle.std.proofs.Common.{◌≡◌, [], replicate, sym, ◌∙◌, ap, subst, arith}
use Rattle.jr_monitors.specs.Roster.{AreLocks}
use Rattle.jr_monitors.proofs.Owning.{new-locks, replicate-more}
use Rattle.jr_monitors.proofs.owners.Owners.new.Goals as goal

pub loop-preserved : goal.loop-preserved
loop-preserved c = record {
  locks = c.push_reserved.ensures.items ∙ replicate-more c.loop.counter c.loop.locks.items c.none.result c.loop.invariant.locks c.none.ensures;
  room = c.push_reserved.ensures.capacity ∙ c.loop.invariant.room;
}

pub invariant_of-result : goal.invariant_of-result
invariant_of-result c =
    let all : c.loop.counter ≡ 16 = omega (arith, c.loop-test.false, c.loop.auto.counter-end) in
    subst (AreLocks c.new.result.entries) (sym (c.loop.invariant.locks ∙ ap (λ n. replicate n []) all)) (new-locks c.new.result.entries c.new.ensures.empty)
