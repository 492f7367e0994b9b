use Rattle.jr_report.proofs.Pieces.{written-out}
use Rattle.jr_report.proofs.line.Line.write_out.Goals as goal

pub returns-in-Whole-clause-bytes : goal.returns-in-Whole-clause-bytes
returns-in-Whole-clause-bytes g c =
    written-out _ _ _ c.args.self.now c.as_bytes.result.now c.clear.new.self c.args.bytes.now _ c.as_bytes.ensures c.clear.ensures c.in-Whole.ensures.bytes c.write_piece-in-Whole.ensures.bytes
