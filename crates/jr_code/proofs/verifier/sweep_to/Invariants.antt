use Rattle.std.proofs.Common.{◌+◌, ◌-◌, ◌*◌, ◌≤◌, length}
use Rattle.jr_code.specs.Verifier.{Extends, SettledBelow, open_places}
use Rattle.jr_code.specs.Views.{plain_of}
use Rattle.jr_code.specs.WellFormed.{plain_method}
use Rattle.jr_code.proofs.verifier.sweep_to.Given as goal

abbrev pub invariant-loop-at : goal.invariant-loop-at
invariant-loop-at l = record {
  extends : Extends (plain_of l.fn.code) (plain_method l.fn.code l.fn.method) l.initial.shapes l.shapes 0;
  settled : SettledBelow (plain_of l.fn.code) (plain_method l.fn.code l.fn.method) l.shapes l.at;
  bound : l.at ≤ length l.fn.method.instrs.items;
}

abbrev pub decreases-loop-at : goal.decreases-loop-at
decreases-loop-at l = (length l.fn.method.instrs.items + 1) * open_places l.shapes + (length l.fn.method.instrs.items - l.at)
