use Rattle.std.proofs.Common.{Some, sym, ap, ◌∙◌}
use Rattle.jr_journal.proofs.Kept.{put_first}
use Rattle.jr_journal.proofs.marks.Mark.and.Goals as goal

pub returns-in-Some-None-clause-verdicts : goal.returns-in-Some-None-clause-verdicts
returns-in-Some-None-clause-verdicts c other = put_first c.args.self.verdicts c.args.place c.args.value other (sym c.item.ensures ∙ (c.in-Some-None.is ∙ ap Some c.in-Some-None.field-0-is))
