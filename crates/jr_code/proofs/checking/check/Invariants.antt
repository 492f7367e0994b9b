use Rattle.std.proofs.Common.{◌≡◌, ℕ, ◌<◌, Some, length}
use Rattle.std.specs.Prelude.{slice_get}
use Rattle.jr_code.specs.declared.code.MethodCode.{MethodCode}
use Rattle.jr_code.specs.Depth.{IsDepth}
use Rattle.jr_code.specs.Views.{plain_of}
use Rattle.jr_code.specs.WellFormed.{plain_method, WellFormedMethod}
use Rattle.jr_code.proofs.checking.check.Given as goal

abbrev pub invariant-loop-number : goal.invariant-loop-number
invariant-loop-number l = record {
  right : (k : ℕ) (m : MethodCode) → k < l.number → slice_get l.code.methods.items k ≡ Some m → WellFormedMethod l.code m;
  size : length l.depths.items ≡ l.number;
  depths : (k depth : ℕ) (m : MethodCode) → slice_get l.depths.items k ≡ Some depth → slice_get l.code.methods.items k ≡ Some m →
      IsDepth (plain_of l.code) (plain_method l.code m) depth;
}
