use Rattle.std.proofs.Common.{◌∙◌, Some, ap, sym, subst}
use Rattle.jr_base.specs.Deed.{deed_of}
use Rattle.jr_io.specs.Writes.{WritesPiece}
use Rattle.jr_io.specs.declared.sink.Piece.TheVariants.{Whole}
use Rattle.jr_io.proofs.WriteLaws.{nothing_written}
use Rattle.jr_program.specs.UnitViews.{program_of}
use Rattle.jr_journal.specs.Entries.{event_of}
use Rattle.jr_report.specs.Judged.{violations_of}
use Rattle.jr_report.specs.Report.{numbered_lines, bytes_of_lines}
use Rattle.jr_report.proofs.Made.{same-some}
use Rattle.jr_report.proofs.Moments.{guest-within}
use Rattle.jr_report.proofs.Passed.{none-there, site-judged, site-violations}
use Rattle.jr_report.proofs.violations.write_violations.Goals as goal

pub returns-then-count_failed-eq0-clause-bytes : goal.returns-then-count_failed-eq0-clause-bytes
returns-then-count_failed-eq0-clause-bytes g c e there =
    let program = program_of c.args.unit.now in let h = c.args.journal.now.entries in
    let here = c.entry.ensures ∙ ap (λ x. Some (event_of x)) c.in-Step.is in
    let none = none-there program c.well_formed-2.ensures h c.requires.right c.requires.nothing_owed c.args.pass.now c.requires.stands
    c.in-Step.guest (deed_of c.in-Step.action) c.in-Step.reply here c.count_failed.result c.count_failed.ensures.count c.if-count_failed-eq0.true in
    subst (λ vs. WritesPiece (g.K.Sink.written c.args.sink.now) (g.K.Sink.written c.args.sink.now) Whole (bytes_of_lines (numbered_lines program c.args.number vs)))
    (sym (ap (violations_of program h c.args.pass.now.step) (same-some (sym there ∙ here)) ∙ none)) (nothing_written (g.K.Sink.written c.args.sink.now))

pub site_of-requires-clause-first : goal.site_of-requires-clause-first
site_of-requires-clause-first g c =
    (guest-within (program_of c.args.unit.now) c.requires.legal.0 c.args.journal.now.entries c.requires.legal.1 c.args.pass.now.at c.in-Step.guest (deed_of c.in-Step.action) c.in-Step.reply
    (c.entry.ensures ∙ ap (λ x. Some (event_of x)) c.in-Step.is)).0

pub site_of-requires-clause-last : goal.site_of-requires-clause-last
site_of-requires-clause-last g c =
    (guest-within (program_of c.args.unit.now) c.requires.legal.0 c.args.journal.now.entries c.requires.legal.1 c.args.pass.now.at c.in-Step.guest (deed_of c.in-Step.action) c.in-Step.reply
    (c.entry.ensures ∙ ap (λ x. Some (event_of x)) c.in-Step.is)).1

pub write_passage-requires-clause-judged : goal.write_passage-requires-clause-judged
write_passage-requires-clause-judged g c =
    site-judged (program_of c.args.unit.now) c.well_formed-2.ensures c.args.journal.now.entries c.requires.right c.requires.nothing_owed c.args.pass.now c.requires.stands
    c.in-Step.guest (deed_of c.in-Step.action) c.in-Step.reply (c.entry.ensures ∙ ap (λ x. Some (event_of x)) c.in-Step.is)
    c.count_failed.result c.count_failed.ensures.count c.if-count_failed-eq0.false c.site_of.result c.site_of.ensures

pub returns-clause-bytes : goal.returns-clause-bytes
returns-clause-bytes g c e there =
    let program = program_of c.args.unit.now in let h = c.args.journal.now.entries in
    let here = c.entry.ensures ∙ ap (λ x. Some (event_of x)) c.in-Step.is in
    let vs = site-violations program c.well_formed-2.ensures h c.requires.right c.requires.nothing_owed c.args.pass.now c.requires.stands
    c.in-Step.guest (deed_of c.in-Step.action) c.in-Step.reply here c.count_failed.result c.count_failed.ensures.count c.if-count_failed-eq0.false c.site_of.result c.site_of.ensures in
    subst (λ vs. WritesPiece (g.K.Sink.written c.args.sink.now) (g.K.Sink.written c.write_passage.new.sink) c.write_passage.result (bytes_of_lines (numbered_lines program c.args.number vs)))
    (vs ∙ ap (violations_of program h c.args.pass.now.step) (same-some (sym here ∙ there))) c.write_passage.ensures.bytes
