-- The numbers so far, and those of the threads to come, are those of the whole wait set.
use Rattle.std.proofs.Common.{◌≡◌, ◌≤◌, ◌++◌, suc, drop, length}
use Rattle.jr_monitors.proofs.WaitSets.{numbers_from}
use Rattle.jr_monitors.proofs.members.Members.waiters.Given as goal

abbrev pub invariant-loop-member : goal.invariant-loop-member
invariant-loop-member l = record {
  number : l.number ≡ l.member-index;
  few : length l.waiters.items ≤ l.member-index;
  rest : l.waiters.items ++ numbers_from (suc l.member-index) l.object (drop l.member-index l.member-items) ≡ numbers_from 1 l.object l.member-items;
}
