use Rattle.std.proofs.Common.{length}
use Rattle.jr_code.specs.Verifier.{Extends, rounds, Pending}
use Rattle.jr_code.specs.Views.{plain_of}
use Rattle.jr_code.specs.WellFormed.{plain_method}
use Rattle.jr_code.proofs.verifier.settle.Given as goal

abbrev pub invariant-loop-start : goal.invariant-loop-start
invariant-loop-start l = record {
  extends : Extends (plain_of l.fn.code) (plain_method l.fn.code l.fn.method) l.initial.shapes l.shapes 0;
  pending : Pending (plain_of l.fn.code) (plain_method l.fn.code l.fn.method) l.shapes (length l.fn.method.instrs.items) (length l.fn.method.regions.items) l.start;
}

abbrev pub decreases-loop-start : goal.decreases-loop-start
decreases-loop-start l = rounds l.shapes l.start
