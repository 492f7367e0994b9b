-- The copy has the objects so far.
use Rattle.std.proofs.Common.{◌≤◌, ◌↔◌, Contains, length}
use Rattle.jr_base.specs.declared.number.ObjId.{ObjId}
use Rattle.jr_base.specs.Rising.{IsRising}
use Rattle.jr_monitors.proofs.Locks.{Among}
use Rattle.jr_monitors.proofs.owners.copy.Given as goal

abbrev pub invariant-loop-object : goal.invariant-loop-object
invariant-loop-object l = record {
  same : (o : ObjId) → Contains l.copy o ↔ Among l.object-items l.object-index o;
  rises : IsRising l.copy;
  few : length l.copy ≤ l.object-index;
}
