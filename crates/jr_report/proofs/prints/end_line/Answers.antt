use Rattle.std.proofs.Common.{[], ◌∷◌}
use Rattle.jr_report.proofs.Pieces.{line-ended}
use Rattle.jr_report.proofs.prints.end_line.Goals as goal

pub returns-in-Whole-clause-bytes : goal.returns-in-Whole-clause-bytes
returns-in-Whole-clause-bytes g c =
    line-ended _ _ _ c.args.line.now c.add.new.self c.as_bytes.result.now (10 ∷ []) _ c.in-Whole.ensures.bytes c.as_bytes.ensures c.write_piece.ensures.bytes
