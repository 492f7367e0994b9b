use Rattle.jr_base.specs.Deed.{deed_of}
use Rattle.jr_journal.proofs.Indexing.{one_step, one_wake, kept_verdict, lost_verdict}
use Rattle.jr_journal.proofs.index.Index.add.Goals as goal

pub returns-in-Step-clause-indexed : goal.returns-in-Step-clause-indexed
returns-in-Step-clause-indexed c h last follows =
    let e = one_step h c.args.at c.in-Step.guest (deed_of c.in-Step.action) c.in-Step.reply c.args.self.now.marks.marks c.add_step.new.self.marks.marks
    c.args.self.now.makes.items c.add_step.new.self.makes.items c.args.self.now.is_complete last follows c.add_step.ensures.steps c.add_step.ensures.makes c.add_step.ensures.kept in
    rw (c.in-Step.is, c.add_step.ensures.complete) e

pub returns-in-Wake-clause-indexed : goal.returns-in-Wake-clause-indexed
returns-in-Wake-clause-indexed c h last follows =
    rw (c.in-Wake.is) (one_wake h c.in-Wake.guest c.args.self.now.marks.marks c.args.self.now.makes.items c.args.self.now.is_complete follows)

pub returns-then-not-keep-clause-indexed : goal.returns-then-not-keep-clause-indexed
returns-then-not-keep-clause-indexed c h last follows =
    let e = lost_verdict h c.in-Verdict.step c.in-Verdict.place c.in-Verdict.value c.args.self.now.marks.marks c.keep.new.self.marks
    c.args.self.now.makes.items c.args.self.now.is_complete follows c.keep.ensures.places in
    rw (c.in-Verdict.is) e

pub returns-else-not-keep-clause-indexed : goal.returns-else-not-keep-clause-indexed
returns-else-not-keep-clause-indexed c h last follows =
    let e = kept_verdict h c.in-Verdict.step c.in-Verdict.place c.in-Verdict.value c.args.self.now.marks.marks c.keep.new.self.marks
    c.args.self.now.makes.items c.args.self.now.is_complete follows c.keep.ensures.places (c.keep.ensures.kept c.if-not-keep.false) in
    rw (c.in-Verdict.is) e
