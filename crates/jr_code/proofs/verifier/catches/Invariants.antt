use Rattle.std.proofs.Common.{◌≡◌, length}
use Rattle.jr_code.specs.Verifier.{OnPaths, Caught}
use Rattle.jr_code.specs.Views.{plain_of}
use Rattle.jr_code.specs.WellFormed.{plain_method}
use Rattle.jr_code.proofs.verifier.catches.Given as goal

abbrev pub invariant-loop-number : goal.invariant-loop-number
invariant-loop-number l = record {
  caught : Caught (plain_of l.fn.code) (plain_method l.fn.code l.fn.method) l.initial.shapes l.shapes l.number l.low;
  sound : OnPaths (plain_of l.fn.code) (plain_method l.fn.code l.fn.method) l.shapes;
  size : length l.shapes ≡ length l.fn.method.instrs.items;
}
