use Rattle.std.proofs.Common.{◌≡◌, ◌∙◌, Some, ap, slice_get, subst, take}
use Rattle.jr_base.specs.Deed.{deed_of}
use Rattle.jr_program.specs.UnitViews.{program_of}
use Rattle.jr_meaning.specs.Frames.{frames_of}
use Rattle.jr_meaning.specs.History.{world_after}
use Rattle.jr_report.specs.Sites.{passed}
use Rattle.jr_report.proofs.Passing.{get-site, put-site}
use Rattle.jr_report.proofs.sites.site_of.Goals as goal

pub returns-in-Get : goal.returns-in-Get
returns-in-Get c p e =
    let program = program_of c.args.unit.now in let before = take c.args.pass.now.at c.args.journal.now.entries in
    c.access.ensures ∙ get-site program (world_after program before) (slice_get (frames_of before c.args.guest) 0) c.args.guest p c.in-Get.cell
    (subst (λ d. passed program before c.args.guest d ≡ Some p) (ap deed_of c.in-Get.is) e)

pub returns-in-Put : goal.returns-in-Put
returns-in-Put c p e =
    let program = program_of c.args.unit.now in let before = take c.args.pass.now.at c.args.journal.now.entries in
    c.access-in-Put.ensures ∙ put-site program (world_after program before) (slice_get (frames_of before c.args.guest) 0) c.args.guest p c.in-Put.cell c.in-Put.field-1
    (subst (λ d. passed program before c.args.guest d ≡ Some p) (ap deed_of c.in-Put.is) e)
