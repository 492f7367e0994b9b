use Rattle.std.proofs.Common.{◌≡◌, ◌+◌, ◌++◌, map, drop}
use Rattle.jr_program.specs.UnitViews.{program_of}
use Rattle.jr_program.specs.StatementViews.{view_part}
use Rattle.jr_lowering.specs.StatementCode.{parts_code, parts_size}
use Rattle.jr_lowering.specs.Emitted.{setting_with}
use Rattle.jr_lowering.proofs.effect.put_parts.Given as goal

abbrev pub invariant-loop-part : goal.invariant-loop-part
invariant-loop-part l =
    record {
      code : l.code ++ parts_code (setting_with (program_of l.unit) l.locals) (map view_part (drop l.part-index l.all)) l.next
          ≡ l.initial.code ++ parts_code (setting_with (program_of l.unit) l.locals) (map view_part l.all) l.at;
      place : l.next + parts_size (program_of l.unit) (map view_part (drop l.part-index l.all))
          ≡ l.at + parts_size (program_of l.unit) (map view_part l.all);
    }
