use Rattle.std.proofs.Common.{◌≡◌, ◌++◌, map, take, drop}
use Rattle.jr_monitors.specs.Roster.{woken_on}
use Rattle.jr_monitors.proofs.members.Members.wake_all.Given as goal

abbrev pub invariant-loop-at : goal.invariant-loop-at
invariant-loop-at l = l.self-inside.members.items ≡ map (woken_on l.object) (take l.at l.initial.self-inside.members.items) ++ drop l.at l.initial.self-inside.members.items
