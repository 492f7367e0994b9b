use Rattle.std.proofs.Common.{◌∙◌, ◌++◌, ap, sym, take, map, append-nil}
use Rattle.jr_program.specs.UnitViews.{view_note}
use Rattle.jr_report.proofs.Notes.{note-there, before-stops, behind-stops, before-goes, behind-goes}
use Rattle.jr_report.proofs.listing.count_before.Goals as goal

pub returns-then-not-is_before-clause-before : goal.returns-then-not-is_before-clause-before
returns-then-not-is_before-clause-before c =
    let notes = map view_note c.args.notes.now in
    let there = note-there c.args.notes.now c.loop-at.at c.index-notes-at.result c.loop-at-test.true c.index-notes-at.is in
    sym (append-nil (take c.loop-at.at notes))
    ∙ ap (λ l. take c.loop-at.at notes ++ l) (sym (before-stops c.args.place notes c.loop-at.at (view_note c.index-notes-at.result) there (sym c.if-not-is_before.ensures)))
    ∙ c.loop-at.invariant.before

pub returns-then-not-is_before-clause-behind : goal.returns-then-not-is_before-clause-behind
returns-then-not-is_before-clause-behind c =
    let notes = map view_note c.args.notes.now in
    let there = note-there c.args.notes.now c.loop-at.at c.index-notes-at.result c.loop-at-test.true c.index-notes-at.is in
    sym (behind-stops c.args.place notes c.loop-at.at (view_note c.index-notes-at.result) there (sym c.if-not-is_before.ensures)) ∙ c.loop-at.invariant.behind

pub loop-at-preserved : goal.loop-at-preserved
loop-at-preserved c =
    let notes = map view_note c.args.notes.now in
    let there = note-there c.args.notes.now c.loop-at.at c.index-notes-at.result c.loop-at-test.true c.index-notes-at.is in
    record {
      before = before-goes c.args.place notes c.loop-at.at (view_note c.index-notes-at.result) there (sym c.if-not-is_before.ensures) ∙ c.loop-at.invariant.before;
      behind = behind-goes c.args.place notes c.loop-at.at (view_note c.index-notes-at.result) there (sym c.if-not-is_before.ensures) ∙ c.loop-at.invariant.behind;
    }
