-- What is left has the objects so far, but for that one.
use Rattle.std.proofs.Common.{◌≢◌, ◌≤◌, ◌↔◌, Contains, length}
use Rattle.jr_base.specs.declared.number.ObjId.{ObjId}
use Rattle.jr_base.specs.Rising.{IsRising}
use Rattle.jr_monitors.proofs.Locks.{Among}
use Rattle.jr_monitors.proofs.owners.without.Given as goal

abbrev pub invariant-loop-other : goal.invariant-loop-other
invariant-loop-other l = record {
  same : (o : ObjId) → Contains l.left o ↔ ((o ≢ l.object) × Among l.other-items l.other-index o);
  rises : IsRising l.left;
  few : length l.left ≤ l.other-index;
}
