use Rattle.std.proofs.Common.{◌≡◌, ◌++◌, map, drop}
use Rattle.jr_typing_rules.specs.Statements.{places_in}
use Rattle.jr_typing.specs.Views.{view_variable}
use Rattle.jr_typing.proofs.print.places_in.Given as goal

abbrev pub invariant-loop-variable : goal.invariant-loop-variable
invariant-loop-variable l = l.places ++ places_in (map view_variable (drop l.variable-index l.variables)) ≡ places_in (map view_variable l.variables)
