use Rattle.std.proofs.Common.{◌≡◌, ◌≤◌, ◌+◌, drop}
use Rattle.jr_program.specs.UnitViews.{program_of}
use Rattle.jr_report.specs.Report.{violations_from, numbered_lines, bytes_of_lines}
use Rattle.jr_report.specs.Sites.{due_where}
use Rattle.jr_report.proofs.Pieces.{Leads}
use Rattle.jr_report.proofs.violations.write_passage.Given as goal

-- what the places to come give is left to write
abbrev pub invariant-loop-place : goal.invariant-loop-place
invariant-loop-place g l = record {
  leads : Leads (g.K.Sink.written l.initial.sink) (g.K.Sink.written l.sink)
      (bytes_of_lines (numbered_lines (program_of l.unit) (l.number + l.written)
      (violations_from l.journal.entries l.passage.guest l.passage.step.0 l.place (drop l.place (due_where (program_of l.unit) l.passage.site)))))
      (bytes_of_lines (numbered_lines (program_of l.unit) l.number
      (violations_from l.journal.entries l.passage.guest l.passage.step.0 0 (due_where (program_of l.unit) l.passage.site))));
  faults : g.K.Sink.faults l.sink ≡ g.K.Sink.faults l.initial.sink;
  few : l.written ≤ l.place;
}
