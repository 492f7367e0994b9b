use Rattle.std.proofs.Common.{◌≡◌, ◌≤◌, drop}
use Rattle.jr_report.specs.Report.{uncaught_lines, bytes_of_lines}
use Rattle.jr_report.proofs.Pieces.{Leads}
use Rattle.jr_report.proofs.uncaught.write_uncaught_lines.Given as goal

abbrev pub invariant-loop-at : goal.invariant-loop-at
invariant-loop-at g l = record {
  leads : Leads (g.K.Sink.written l.initial.sink) (g.K.Sink.written l.sink) (bytes_of_lines (uncaught_lines l.step (drop l.at l.journal.entries))) (bytes_of_lines (uncaught_lines 0 l.journal.entries));
  faults : g.K.Sink.faults l.sink ≡ g.K.Sink.faults l.initial.sink;
  steps : l.step ≤ l.at;
}
