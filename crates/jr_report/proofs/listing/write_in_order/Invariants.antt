use Rattle.std.proofs.Common.{◌≡◌, ◌+◌, drop, map}
use Rattle.jr_program.specs.UnitViews.{program_of, view_note}
use Rattle.jr_report.specs.Listing.{in_source_order}
use Rattle.jr_report.specs.Report.{bytes_of_lines}
use Rattle.jr_report.proofs.Pieces.{Leads}
use Rattle.jr_report.proofs.listing.write_in_order.Given as goal

-- the clauses and notes to come are left to write
abbrev pub invariant-loop-at : goal.invariant-loop-at
invariant-loop-at g l = record {
  leads : Leads (g.K.Sink.written l.initial.sink) (g.K.Sink.written l.sink)
      (bytes_of_lines (in_source_order (l.at + 1) (drop l.at (program_of l.unit).clauses) (map view_note l.notes)))
      (bytes_of_lines (in_source_order 1 (program_of l.unit).clauses (program_of l.unit).notes));
  faults : g.K.Sink.faults l.sink ≡ g.K.Sink.faults l.initial.sink;
}
