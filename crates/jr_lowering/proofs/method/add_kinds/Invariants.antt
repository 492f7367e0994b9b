use Rattle.std.proofs.Common.{◌≡◌, ◌++◌, drop}
use Rattle.jr_lowering.proofs.method.add_kinds.Given as goal

abbrev pub invariant-loop-kind : goal.invariant-loop-kind
invariant-loop-kind l = l.list.items ++ drop l.kind-index l.kinds ≡ l.initial.list.items ++ l.kinds
