use Rattle.std.proofs.Common.{◌≡◌, ◌≤◌, ◌+◌, ◌*◌}
use Rattle.jr_program.specs.UnitViews.{program_of}
use Rattle.jr_report.specs.OpenCalls.{Stands}
use Rattle.jr_report.specs.Report.{numbered_lines, violation_lines, bytes_of_lines}
use Rattle.jr_report.proofs.Moments.{violations_to_come}
use Rattle.jr_report.proofs.Pieces.{Leads}
use Rattle.jr_report.proofs.violations.write_violation_lines.Given as goal

-- the violations of the steps to come are left to write
abbrev pub invariant-loop-at : goal.invariant-loop-at
invariant-loop-at g l = record {
  leads : Leads (g.K.Sink.written l.initial.sink) (g.K.Sink.written l.sink)
      (bytes_of_lines (numbered_lines (program_of l.unit) (l.written + 1) (violations_to_come (program_of l.unit) l.journal.entries l.pass.step)))
      (bytes_of_lines (violation_lines (program_of l.unit) l.journal.entries));
  faults : g.K.Sink.faults l.sink ≡ g.K.Sink.faults l.initial.sink;
  stands : Stands l.journal.entries l.pass;
  at : l.pass.at ≡ l.at;
  steps : l.pass.step ≤ l.pass.at;
  few : l.written ≤ 16 * l.at;
}
