use Rattle.std.proofs.Common.{◌∙◌}
use Rattle.jr_base.specs.Deed.{deed_of}
use Rattle.jr_program.specs.UnitViews.{program_of}
use Rattle.jr_heap.specs.Plain.{seen_in}
use Rattle.jr_drive.proofs.AtMoment.{values-at-moment}
use Rattle.jr_drive.proofs.Judging.{on_ok}
use Rattle.jr_drive.proofs.judge.judge.Goals as goal

pub returns-clause-values : goal.returns-clause-values
returns-clause-values c = on_ok c.judge_at_moment.result _ _
    (λ at h g stands. at ∙ values-at-moment (program_of c.args.unit.now) (c.built_clauses_look_at_the_moment.ensures (program_of c.args.unit.now) c.requires)
    c.old_heaps_are_unseen.ensures h g c.args.frames.now (seen_in c.args.heap.now) stands (deed_of c.args.action.now))
    c.judge_at_moment.ensures.values
