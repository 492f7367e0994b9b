use Rattle.std.proofs.Common.{map, take}
use Rattle.jr_code.specs.Views.{tables_of}
use Rattle.jr_lowering.specs.Encoded.{AreCoded, KeepsMethods}
use Rattle.jr_lowering.specs.Ops.{means}
use Rattle.jr_lowering.proofs.method.encode.Given as goal

abbrev pub invariant-loop-op : goal.invariant-loop-op
invariant-loop-op l =
    record {
      keeps : KeepsMethods l.initial.code l.code;
      coded : AreCoded (tables_of l.code) l.instrs.items (map means (take l.op-index l.ops));
    }
