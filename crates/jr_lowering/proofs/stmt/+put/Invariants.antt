use Rattle.std.proofs.Common.{◌≡◌, ◌+◌, ◌++◌, map, drop}
use Rattle.jr_program.specs.UnitViews.{program_of}
use Rattle.jr_program.specs.StatementViews.{catches, chained, view_catch, view_stmt}
use Rattle.jr_lowering.specs.StatementCode.{catches_code, catches_regions, catches_size, statement_code, statement_regions, statement_size}
use Rattle.jr_lowering.specs.Emitted.{setting_with}
use Rattle.jr_lowering.proofs.stmt.+put.Given as goal

-- what stands and what is still to come are the whole
abbrev pub invariant-put_statements-loop-stmt : goal.invariant-put_statements-loop-stmt
invariant-put_statements-loop-stmt l =
    record {
      code : l.code ++ statement_code (setting_with (program_of l.unit) l.locals) (chained (map view_stmt (drop l.stmt-index l.all))) l.exits.around l.next l.exits.break_to l.exits.continue_to
          ≡ l.initial.code ++ statement_code (setting_with (program_of l.unit) l.locals) (chained (map view_stmt l.all)) l.exits.around l.at l.exits.break_to l.exits.continue_to;
      regions : l.regions ++ statement_regions (setting_with (program_of l.unit) l.locals) (chained (map view_stmt (drop l.stmt-index l.all))) l.exits.around l.next
          ≡ l.initial.regions ++ statement_regions (setting_with (program_of l.unit) l.locals) (chained (map view_stmt l.all)) l.exits.around l.at;
      place : l.next + statement_size (program_of l.unit) (chained (map view_stmt (drop l.stmt-index l.all))) l.exits.around
          ≡ l.at + statement_size (program_of l.unit) (chained (map view_stmt l.all)) l.exits.around;
    }

abbrev pub invariant-put_catches-loop-one : goal.invariant-put_catches-loop-one
invariant-put_catches-loop-one l =
    record {
      code : l.code ++ catches_code (setting_with (program_of l.unit) l.locals) (catches (map view_catch (drop l.one-index l.all))) l.exits.around l.next l.end l.exits.break_to l.exits.continue_to
          ≡ l.initial.code ++ catches_code (setting_with (program_of l.unit) l.locals) (catches (map view_catch l.all)) l.exits.around l.at l.end l.exits.break_to l.exits.continue_to;
      regions : l.regions ++ catches_regions (setting_with (program_of l.unit) l.locals) (catches (map view_catch (drop l.one-index l.all))) l.exits.around l.next
          ≡ l.initial.regions ++ catches_regions (setting_with (program_of l.unit) l.locals) (catches (map view_catch l.all)) l.exits.around l.at;
      place : l.next + catches_size (program_of l.unit) (catches (map view_catch (drop l.one-index l.all))) l.exits.around
          ≡ l.at + catches_size (program_of l.unit) (catches (map view_catch l.all)) l.exits.around;
    }
