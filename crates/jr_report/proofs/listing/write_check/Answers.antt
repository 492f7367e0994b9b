use Rattle.std.proofs.Common.{◌∙◌, subst}
use Rattle.jr_io.specs.Writes.{WritesPiece}
use Rattle.jr_report.proofs.listing.write_check.Goals as goal

pub returns-clause-bytes : goal.returns-clause-bytes
returns-clause-bytes g c =
    subst (WritesPiece (g.K.Sink.written c.args.sink.now) (g.K.Sink.written c.write_piece.new.sink) c.write_piece.result)
    (c.as_bytes.ensures ∙ c.put_check_line.ensures) c.write_piece.ensures.bytes
