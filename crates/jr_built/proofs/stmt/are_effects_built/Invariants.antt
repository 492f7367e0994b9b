use Rattle.std.proofs.Common.{◌≡◌, map, drop}
use Rattle.std.specs.List.{list_all}
use Rattle.jr_program.specs.ExprViews.{view_effect}
use Rattle.jr_built.specs.Built.{effect_is_built}
use Rattle.jr_built.proofs.stmt.are_effects_built.Given as goal

abbrev pub invariant-loop-effect : goal.invariant-loop-effect
invariant-loop-effect l = list_all effect_is_built (map view_effect l.all) ≡ list_all effect_is_built (map view_effect (drop l.effect-index l.all))
