use Rattle.std.proofs.Common.{◌++◌, ◌∙◌, ap, sym, subst, map}
use Rattle.jr_io.specs.Writes.{WritesPiece}
use Rattle.jr_io.proofs.WriteLaws.{piece_after_whole}
use Rattle.jr_program.specs.UnitViews.{view_note}
use Rattle.jr_program.specs.ClauseViews.{view_clause}
use Rattle.jr_report.specs.Listing.{note_line, clause_line}
use Rattle.jr_report.specs.Report.{bytes_of_lines}
use Rattle.jr_report.proofs.Notes.{clause-bytes}
use Rattle.jr_report.proofs.listing.write_clause.Goals as goal

pub returns-in-Whole-clause-bytes : goal.returns-in-Whole-clause-bytes
returns-in-Whole-clause-bytes g c =
    let lines = map note_line (map view_note c.args.notes.now) in
    subst (WritesPiece (g.K.Sink.written c.args.sink.now) (g.K.Sink.written c.write_piece.new.sink) c.write_piece.result)
    (ap (λ l. bytes_of_lines lines ++ l) (c.as_bytes.ensures ∙ c.put_clause_line.ensures) ∙ sym (clause-bytes lines (clause_line c.args.number (view_clause c.args.clause.now))))
    (piece_after_whole _ _ _ _ _ _ c.in-Whole.ensures.bytes c.write_piece.ensures.bytes)
