use Rattle.std.proofs.Common.{◌≡◌, ◌+◌, ◌++◌}
use Rattle.jr_program.specs.UnitViews.{program_of}
use Rattle.jr_lowering.specs.StatementCode.{exit_code, exit_size}
use Rattle.jr_lowering.specs.Emitted.{setting_with}
use Rattle.jr_lowering.specs.Ops.{means}
use Rattle.jr_lowering.proofs.exit.put_exits.Given as goal

-- what stands and the exits that are left are the whole
abbrev pub invariant-loop-depth : goal.invariant-loop-depth
invariant-loop-depth l =
    record {
      code : l.code ++ exit_code (setting_with (program_of l.unit) l.locals) l.depth l.left (means l.initial.op)
          ≡ l.initial.code ++ exit_code (setting_with (program_of l.unit) l.locals) l.around l.count (means l.initial.op);
      same : l.op ≡ l.initial.op;
      place : l.next + exit_size l.depth l.left ≡ l.at + exit_size l.around l.count;
    }

abbrev pub decreases-loop-depth : goal.decreases-loop-depth
decreases-loop-depth l = l.left
