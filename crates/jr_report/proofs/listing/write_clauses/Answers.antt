use Rattle.std.proofs.Common.{sym, subst}
use Rattle.jr_io.specs.Writes.{WritesPiece}
use Rattle.jr_io.proofs.WriteLaws.{piece_after_whole}
use Rattle.jr_program.specs.UnitViews.{program_of}
use Rattle.jr_report.specs.Listing.{in_source_order, count_line}
use Rattle.jr_report.proofs.Notes.{clause-bytes}
use Rattle.jr_report.proofs.listing.write_clauses.Goals as goal

pub returns-in-Whole-clause-bytes : goal.returns-in-Whole-clause-bytes
returns-in-Whole-clause-bytes g c =
    let program = program_of c.args.unit.now in
    subst (WritesPiece (g.K.Sink.written c.args.sink.now) (g.K.Sink.written c.write_count.new.sink) c.write_count.result)
    (sym (clause-bytes (in_source_order 1 program.clauses program.notes) (count_line program)))
    (piece_after_whole _ _ _ _ _ _ c.in-Whole.ensures.bytes c.write_count.ensures.bytes)
