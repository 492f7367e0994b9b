use Rattle.std.proofs.Common.{◌++◌, ◌∷◌, [], ◌∙◌, ap, codes}
use Rattle.jr_report.specs.Listing.{note_end}
use Rattle.jr_report.proofs.Pieces.{note-written, note-cut}
use Rattle.jr_report.proofs.listing.write_note.Goals as goal

pub returns-in-Whole-clause-bytes : goal.returns-in-Whole-clause-bytes
returns-in-Whole-clause-bytes g c =
    note-written _ _ _ c.text.new.self c.add.new.self c.as_slice.result.now (codes "note: ") c.args.note.now.word (note_end c.args.note.now.place) (10 ∷ []) _
    (c.text.ensures.bytes ∙ ap (λ l. l ++ codes "note: ") c.clear.ensures) c.as_slice.ensures c.in-Whole.ensures.bytes c.write_note_end.ensures.bytes

pub returns-in-WriteFault-clause-bytes : goal.returns-in-WriteFault-clause-bytes
returns-in-WriteFault-clause-bytes g c =
    note-cut _ _ c.text.new.self c.add.new.self c.as_slice.result.now (codes "note: ") c.args.note.now.word (note_end c.args.note.now.place) (10 ∷ [])
    (c.text.ensures.bytes ∙ ap (λ l. l ++ codes "note: ") c.clear.ensures) c.as_slice.ensures c.in-WriteFault.ensures.bytes
