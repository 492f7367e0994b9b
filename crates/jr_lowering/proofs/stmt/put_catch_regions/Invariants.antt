use Rattle.std.proofs.Common.{◌≡◌, ◌++◌, map, drop}
use Rattle.jr_program.specs.UnitViews.{program_of}
use Rattle.jr_program.specs.StatementViews.{catches, view_catch}
use Rattle.jr_lowering.specs.ExprCode.{Setting}
use Rattle.jr_lowering.specs.StatementCode.{catch_regions}
use Rattle.jr_lowering.proofs.stmt.put_catch_regions.Given as goal

abbrev pub invariant-loop-one : goal.invariant-loop-one
invariant-loop-one l = (s : Setting) → s.program ≡ program_of l.unit →
    l.regions ++ catch_regions s (catches (map view_catch (drop l.one-index l.all))) l.around l.first l.past l.target
    ≡ l.initial.regions ++ catch_regions s (catches (map view_catch l.all)) l.around l.first l.past l.at
