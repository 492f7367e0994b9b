use Rattle.std.proofs.Common.{◌≡◌, drop, map}
use Rattle.jr_program.specs.UnitViews.{view_note}
use Rattle.jr_report.specs.Listing.{note_line}
use Rattle.jr_report.specs.Report.{bytes_of_lines}
use Rattle.jr_report.proofs.Pieces.{Leads}
use Rattle.jr_report.proofs.listing.write_notes.Given as goal

-- the notes to come are left to write
abbrev pub invariant-loop-note : goal.invariant-loop-note
invariant-loop-note g l = record {
  leads : Leads (g.K.Sink.written l.initial.sink) (g.K.Sink.written l.sink)
      (bytes_of_lines (map note_line (map view_note (drop l.note-index l.notes)))) (bytes_of_lines (map note_line (map view_note l.notes)));
  faults : g.K.Sink.faults l.sink ≡ g.K.Sink.faults l.initial.sink;
}
