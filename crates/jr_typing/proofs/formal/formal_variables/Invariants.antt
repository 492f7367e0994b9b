use Rattle.std.proofs.Common.{◌≡◌, drop}
use Rattle.jr_typing_rules.specs.Declarations.{formal_variables}
use Rattle.jr_typing.proofs.Formals.{with_rest}
use Rattle.jr_typing.proofs.formal.formal_variables.Given as goal

abbrev pub invariant-loop-formal : goal.invariant-loop-formal
invariant-loop-formal l = with_rest l.variables (drop l.formal-index l.formals) l.types ≡ formal_variables 0 l.formals l.types
