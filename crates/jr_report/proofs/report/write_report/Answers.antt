use Rattle.std.proofs.Common.{refl}
use Rattle.jr_program.specs.UnitViews.{program_of}
use Rattle.jr_report.proofs.Pieces.{leads-fault, after-out, after-violations, after-uncaught, after-finish}
use Rattle.jr_report.proofs.report.write_report.Goals as goal

pub write_violation_lines-requires-clause-legal : goal.write_violation_lines-requires-clause-legal
write_violation_lines-requires-clause-legal g c = (c.args.run.now.opening.budget, c.requires.legal)

pub returns-in-WriteFault-write_violation_lines-clause-bytes : goal.returns-in-WriteFault-write_violation_lines-clause-bytes
returns-in-WriteFault-write_violation_lines-clause-bytes g c =
    leads-fault _ _ _ _ _ _ _
    (after-out (program_of c.args.run.now.opening.unit) c.args.run.now.journal.entries c.args.run.now.finish _ _ c.in-Whole.ensures.bytes)
    refl c.in-WriteFault-write_violation_lines.ensures.bytes

pub returns-in-WriteFault-write_uncaught_lines-clause-bytes : goal.returns-in-WriteFault-write_uncaught_lines-clause-bytes
returns-in-WriteFault-write_uncaught_lines-clause-bytes g c =
    leads-fault _ _ _ _ _ _ _
    (after-violations (program_of c.args.run.now.opening.unit) c.args.run.now.journal.entries c.args.run.now.finish _ _ _
    c.in-Whole.ensures.bytes c.in-Whole-write_violation_lines.ensures.bytes)
    refl c.in-WriteFault-write_uncaught_lines.ensures.bytes

pub returns-in-WriteFault-write_finish_line-clause-bytes : goal.returns-in-WriteFault-write_finish_line-clause-bytes
returns-in-WriteFault-write_finish_line-clause-bytes g c =
    leads-fault _ _ _ _ _ _ _
    (after-uncaught (program_of c.args.run.now.opening.unit) c.args.run.now.journal.entries c.args.run.now.finish _ _ _ _
    c.in-Whole.ensures.bytes c.in-Whole-write_violation_lines.ensures.bytes c.in-Whole-write_uncaught_lines.ensures.bytes)
    refl c.in-WriteFault-write_finish_line.ensures.bytes

pub returns-clause-bytes : goal.returns-clause-bytes
returns-clause-bytes g c =
    after-finish (program_of c.args.run.now.opening.unit) c.args.run.now.journal.entries c.args.run.now.finish _ _ _ _ _
    c.in-Whole.ensures.bytes c.in-Whole-write_violation_lines.ensures.bytes c.in-Whole-write_uncaught_lines.ensures.bytes
    c.in-Whole-write_finish_line.ensures.bytes _ _ c.write_summary_line.ensures.bytes
