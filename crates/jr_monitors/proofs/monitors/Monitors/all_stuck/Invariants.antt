-- Each thread so far has ended, or is stuck.
use Rattle.std.proofs.Common.{◌≡◌}
use Rattle.jr_monitors.proofs.Stuck.{RestTo}
use Rattle.jr_monitors.proofs.monitors.Monitors.all_stuck.Given as goal

abbrev pub invariant-loop-member : goal.invariant-loop-member
invariant-loop-member l = record {
  number : l.number ≡ l.member-index;
  rest : RestTo l.self l.member-index;
}
