use Rattle.std.proofs.Common.{◌≡◌, ◌+◌, ◌++◌, map, drop}
use Rattle.jr_program.specs.UnitViews.{program_of}
use Rattle.jr_program.specs.ExprViews.{view_effect}
use Rattle.jr_lowering.specs.StatementCode.{effects_code, effects_size}
use Rattle.jr_lowering.specs.Emitted.{setting_with}
use Rattle.jr_lowering.proofs.effect.put_effects.Given as goal

abbrev pub invariant-loop-effect : goal.invariant-loop-effect
invariant-loop-effect l =
    record {
      code : l.code ++ effects_code (setting_with (program_of l.unit) l.locals) (map view_effect (drop l.effect-index l.all)) l.next
          ≡ l.initial.code ++ effects_code (setting_with (program_of l.unit) l.locals) (map view_effect l.all) l.at;
      place : l.next + effects_size (program_of l.unit) (map view_effect (drop l.effect-index l.all))
          ≡ l.at + effects_size (program_of l.unit) (map view_effect l.all);
    }
