-- Where the thread waits its number is the next one.
use Rattle.std.proofs.Common.{◌+◌, ◌++◌, suc, length, drop, sym, ap, ◌∙◌, arith}
use Rattle.jr_monitors.proofs.WaitSets.{numbers_from, rest-with, rest-without}
use Rattle.jr_monitors.proofs.members.Members.waiters.Goals as goal
use Rattle.jr_monitors.proofs.members.Members.waiters.Goals.{then-waits_on, else-waits_on}

pub loop-member-preserved : goal.loop-member-preserved
loop-member-preserved c =
    let l = c.loop-member in let items = c.as_slice-member-items.result.now in
    elim c.if-waits_on.branch [
      | then-waits_on w ↦ record {
        number = (let e = l.invariant.number in omega (arith, e));
        few = (let e = ap (λ v. length v.items) w.waiters-is in let f = l.invariant.few in omega (arith, e, f, w.push.ensures.len));
        rest =
            ap (λ v. v.items ++ numbers_from (suc (l.member-index + 1)) c.args.object (drop (l.member-index + 1) items)) w.waiters-is
            ∙ (ap (λ xs. xs ++ numbers_from (suc (l.member-index + 1)) c.args.object (drop (l.member-index + 1) items)) w.push.ensures.items
            ∙ rest-with l.member-index l.number c.args.object items _ l.waiters.items _ l.invariant.number c.loop-member-test.true
            (sym (c.waits_on.ensures (record { 0 = suc l.member-index })) ∙ w.if-waits_on.true) l.invariant.rest);
      }
      | else-waits_on w ↦ record {
        number = (let e = l.invariant.number in omega (arith, e));
        few = (let e = ap (λ v. length v.items) w.waiters-is in let f = l.invariant.few in omega (arith, e, f));
        rest =
            ap (λ v. v.items ++ numbers_from (suc (l.member-index + 1)) c.args.object (drop (l.member-index + 1) items)) w.waiters-is
            ∙ rest-without l.member-index c.args.object items _ l.waiters.items _ c.loop-member-test.true
            (sym (c.waits_on.ensures (record { 0 = suc l.member-index })) ∙ w.if-waits_on.false) l.invariant.rest;
      }
    ]
