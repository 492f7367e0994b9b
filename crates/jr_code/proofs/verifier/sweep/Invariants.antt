use Rattle.std.proofs.Common.{◌≤◌, length}
use Rattle.jr_code.specs.Verifier.{Extends, SettledBelow}
use Rattle.jr_code.specs.Views.{plain_of}
use Rattle.jr_code.specs.WellFormed.{plain_method}
use Rattle.jr_code.proofs.verifier.sweep.Given as goal

abbrev pub invariant-loop-handler : goal.invariant-loop-handler
invariant-loop-handler l = record {
  extends : Extends (plain_of l.fn.code) (plain_method l.fn.code l.fn.method) l.initial.shapes l.shapes 0;
  settled : SettledBelow (plain_of l.fn.code) (plain_method l.fn.code l.fn.method) l.shapes l.at;
  bound : l.at ≤ length l.fn.method.instrs.items;
}
