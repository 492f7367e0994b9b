use Rattle.std.proofs.Common.{◌≡◌, drop, map}
use Rattle.jr_typing.specs.Views.{view_variable}
use Rattle.jr_spec_typing.specs.Environments.{last_place}
use Rattle.jr_spec_typing.proofs.environment.place_behind.Given as goal

abbrev pub invariant-loop-variable : goal.invariant-loop-variable
invariant-loop-variable l = last_place l.next (map view_variable (drop l.variable-index l.variables)) ≡ last_place 0 (map view_variable l.variables)
