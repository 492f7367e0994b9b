use Rattle.std.proofs.Common.{◌≡◌, drop, find}
use Rattle.jr_monitors.specs.Roster.{is_run_of}
use Rattle.jr_monitors.proofs.members.Members.run_of.Given as goal

abbrev pub invariant-loop-member : goal.invariant-loop-member
invariant-loop-member l = find (is_run_of l.object) (drop l.member-index l.member-items) ≡ find (is_run_of l.object) l.member-items
