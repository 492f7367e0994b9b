use Rattle.std.proofs.Common.{map, slice_set, sym, ap, ◌∙◌}
use Rattle.jr_journal.specs.Marks.{MarksOf, place_in, kept}
use Rattle.jr_journal.proofs.Kept.{set_mark, same_places}
use Rattle.jr_journal.proofs.marks.Marks.keep.Goals as goal

pub returns-in-Some-and-clause-places : goal.returns-in-Some-and-clause-places
returns-in-Some-and-clause-places c =
    ap (λ (ms : MarksOf). map place_in (slice_set ms.marks c.args.step.0 c.in-Some-and.mark)) c.self.view_is
    ∙ same_places c.args.self.now.marks c.args.step.0 c.in-Some.mark c.in-Some-and.mark (sym c.find.ensures ∙ c.in-Some.is) c.in-Some-and.ensures.at

pub returns-in-Some-and-clause-kept : goal.returns-in-Some-and-clause-kept
returns-in-Some-and-clause-kept c done k other =
    ap (λ (ms : MarksOf). kept (slice_set ms.marks c.args.step.0 c.in-Some-and.mark) k other) c.self.view_is
    ∙ set_mark c.args.self.now.marks c.args.step.0 c.args.place c.args.value c.in-Some.mark c.in-Some-and.mark (sym c.find.ensures ∙ c.in-Some.is) c.in-Some-and.ensures.verdicts k other
