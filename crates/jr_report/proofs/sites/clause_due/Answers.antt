use Rattle.std.proofs.Common.{◌∙◌, ap, slice_get, sym}
use Rattle.std.proofs.lemmas.Bool.{false≢true}
use Rattle.jr_program.specs.UnitViews.{program_of}
use Rattle.jr_report.specs.Sites.{due_where}
use Rattle.jr_report.proofs.Fields.{elsewhere}
use Rattle.jr_report.proofs.sites.clause_due.Goals as goal

pub returns-in_default-2 : goal.returns-in_default-2
returns-in_default-2 c =
    let program = program_of c.args.unit.now in
    let none = elsewhere program c.well_formed-2.ensures c.in_ok-site.site c.in_default-2.not-Assert (λ s. false≢true (sym c.if-is_site.false ∙ c.is_site.ensures.1 s)) in
    sym (ap (λ o. slice_get (due_where program o) c.args.place) c.in_ok-site.was ∙ ap (λ cs. slice_get cs c.args.place) none)
