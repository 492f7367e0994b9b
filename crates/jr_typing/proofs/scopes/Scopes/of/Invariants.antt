use Rattle.std.proofs.Common.{◌≡◌, [], ◌++◌, drop}
use Rattle.jr_typing.specs.Scoped.{asserts_of}
use Rattle.jr_typing.proofs.scopes.Scopes.of.Given as goal

abbrev pub invariant-loop-variable : goal.invariant-loop-variable
invariant-loop-variable l = (l.scopes.variables.items ++ drop l.variable-index l.variables ≡ l.variables) × (asserts_of [] l.scopes.steps.items ≡ [])
