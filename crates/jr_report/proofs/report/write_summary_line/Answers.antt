use Rattle.std.proofs.Common.{◌+◌, ◌∙◌, ap, subst}
use Rattle.jr_io.specs.Writes.{WritesPiece}
use Rattle.jr_program.specs.UnitViews.{program_of}
use Rattle.jr_report.proofs.Pieces.{summary-same}
use Rattle.jr_report.proofs.report.write_summary_line.Goals as goal

pub returns-clause-bytes : goal.returns-clause-bytes
returns-clause-bytes g c =
    subst (WritesPiece (g.K.Sink.written c.args.sink.now) (g.K.Sink.written c.write_piece.new.sink) c.write_piece.result)
    (c.as_bytes.ensures ∙ c.put_summary_line.ensures ∙ summary-same c.count_all-count.ensures.steps
    (ap (λ n. n + 1) c.from.ensures ∙ c.count_all-count.ensures.guests (program_of c.args.run.now.opening.unit)) c.count_all-count.ensures.verdicts c.count_all-count.ensures.violations c.count_all-count.ensures.uncaught)
    c.write_piece.ensures.bytes
