use Rattle.std.proofs.Common.{sym, ◌∙◌}
use Rattle.jr_names.proofs.Numbering.{note_known, note_new}
use Rattle.jr_names.proofs.numbers.note.Goals as goal

pub returns-then-has : goal.returns-then-has
returns-then-has c = λ all alike. note_known _ all _ _ _ (sym c.has.ensures ∙ c.if-has.true) c.as_slice-text.ensures alike

pub returns : goal.returns
returns c = λ all alike. note_new _ _ all _ _ _ _ c.in_ok-put.ensures.ok c.as_slice-text.ensures c.in_ok-number.ensures alike
