use Rattle.std.proofs.Common.{◌++◌, ◌∷◌, [], ◌∙◌, ap}
use Rattle.jr_report.proofs.Pieces.{goes-on}
use Rattle.jr_report.proofs.listing.write_note_end.Goals as goal

pub returns-in-Whole-clause-bytes : goal.returns-in-Whole-clause-bytes
returns-in-Whole-clause-bytes g c =
    goes-on _ _ _ c.args.line.now c.add.new.self c.as_bytes.result.now (10 ∷ []) _ _ c.in-Whole.ensures.bytes c.end_line.ensures.bytes
    (ap (λ x. (c.args.line.now ++ x) ++ 10 ∷ []) (c.as_bytes.ensures ∙ c.put_note_end.ensures))
