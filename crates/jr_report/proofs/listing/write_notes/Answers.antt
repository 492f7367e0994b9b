use Rattle.std.proofs.Common.{◌∙◌, ap, map, arith}
use Rattle.std.proofs.lemmas.List.{drop_all}
use Rattle.jr_program.specs.UnitViews.{view_note}
use Rattle.jr_report.specs.Listing.{note_line}
use Rattle.jr_report.specs.Report.{bytes_of_lines}
use Rattle.jr_report.proofs.Notes.{notes-at}
use Rattle.jr_report.proofs.Pieces.{leads-more, leads-fault, leads-done}
use Rattle.jr_report.proofs.listing.write_notes.Goals as goal

pub returns-in-WriteFault-clause-bytes : goal.returns-in-WriteFault-clause-bytes
returns-in-WriteFault-clause-bytes g c =
    leads-fault _ _ _ _ _ _ _ c.loop-note.invariant.leads (notes-at c.args.notes.now c.loop-note.note-index c.note-item.result c.loop-note-test.true c.note-item.is) c.in-WriteFault.ensures.bytes

pub loop-note-preserved : goal.loop-note-preserved
loop-note-preserved g c = record {
  leads = leads-more _ _ _ _ _ _ _ c.loop-note.invariant.leads (notes-at c.args.notes.now c.loop-note.note-index c.note-item.result c.loop-note-test.true c.note-item.is) c.in-Whole.ensures.bytes;
  faults = c.in-Whole.ensures.faults ∙ c.loop-note.invariant.faults;
}

pub returns-clause-bytes : goal.returns-clause-bytes
returns-clause-bytes g c =
    leads-done _ _ _ _ c.loop-note.invariant.leads (ap (λ ns. bytes_of_lines (map note_line (map view_note ns))) (drop_all c.loop-note.note-index c.args.notes.now (omega (arith, c.loop-note-test.false))))
