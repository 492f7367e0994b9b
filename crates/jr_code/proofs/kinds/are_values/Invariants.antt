use Rattle.std.proofs.Common.{drop}
use Rattle.jr_code.specs.Checked.{NoneCaught}
use Rattle.jr_code.proofs.kinds.are_values.Given as goal

abbrev pub invariant-loop-kind : goal.invariant-loop-kind
invariant-loop-kind l = (NoneCaught (drop l.kind-index l.kinds) → NoneCaught l.kinds) × (NoneCaught l.kinds → NoneCaught (drop l.kind-index l.kinds))
