use Rattle.std.proofs.Common.{◌≡◌, ◌+◌, map, drop}
use Rattle.jr_program.specs.UnitViews.{program_of}
use Rattle.jr_program.specs.ExprViews.{view_effect}
use Rattle.jr_lowering.specs.StatementCode.{effects_size}
use Rattle.jr_lowering.proofs.statement_size.size_of_effects.Given as goal

abbrev pub invariant-loop-effect : goal.invariant-loop-effect
invariant-loop-effect l = l.total + effects_size (program_of l.unit) (map view_effect (drop l.effect-index l.all)) ≡ effects_size (program_of l.unit) (map view_effect l.all)
