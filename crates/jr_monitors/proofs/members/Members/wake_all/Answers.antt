-- One thread more is out of the wait set.
use Rattle.std.proofs.Common.{◌≡◌, ◌<◌, ◌+◌, ◌++◌, suc, length, length-set, map, take, drop, set, get_or, ap, ◌∙◌, arith}
use Rattle.std.proofs.Common.{false, None}
use Rattle.jr_monitors.specs.declared.member.Member.{Member}
use Rattle.jr_monitors.specs.Roster.{woken_on}
use Rattle.jr_monitors.proofs.WaitSets.{mapped-more, refill-same}
use Rattle.jr_monitors.proofs.members.Members.wake_all.Goals as goal

pub loop-at-preserved : goal.loop-at-preserved
loop-at-preserved c =
    let l = c.loop-at in let now = l.self-inside.members.items in let first = c.self.inside.members.items in
    let f = woken_on c.args.object in
    let nobody : Member = record { object = None; ended = false; parked = None; stay = None } in
    let within : l.at < length first = (let t = c.loop-at-test.true in let v = c.len-at-end.ensures.value in omega (arith, t, v)) in
    let e : suc l.at ≡ l.at + 1 = omega arith in
    refill-same now (set c.deref_mut.result.now l.at c.woken_on.result) (length-set c.deref_mut.result.now l.at c.woken_on.result ∙ ap length c.deref_mut.ensures.value)
    ∙ (ap (λ xs. set xs l.at c.woken_on.result) c.deref_mut.ensures.value
    ∙ (ap (λ m. set now l.at m) (c.woken_on.ensures ∙ ap (λ xs. f (get_or xs l.at nobody)) c.deref.ensures.0)
    ∙ (ap (λ xs. set xs l.at (f (get_or xs l.at nobody))) l.invariant
    ∙ (mapped-more f first l.at nobody within ∙ ap (λ k. map f (take k first) ++ drop k first) e))))
