use Rattle.std.proofs.Common.{◌++◌, ◌∷◌, [], ◌∙◌, ap}
use Rattle.jr_program.specs.UnitViews.{program_of}
use Rattle.jr_heap.specs.Plain.{seen_in}
use Rattle.jr_clause_eval.specs.Scenes.{environment_of}
use Rattle.jr_drive.specs.DueThere.{numbers_in}
use Rattle.jr_drive.specs.Moment.{moment_value}
use Rattle.jr_drive.proofs.Judging.{each_more}
use Rattle.jr_drive.proofs.judge.judge_each.Goals as goal

pub loop-place-preserved : goal.loop-place-preserved
loop-place-preserved c =
    each_more (moment_value (program_of c.args.unit.now) (seen_in c.args.heap.now) (environment_of c.args.env.now)) (numbers_in c.args.due.now) c.loop-place.place c.at.result
    c.args.values.now.items c.loop-place.values.items c.push.new.self.items
    c.at.ensures c.loop-place.invariant (c.in_ok-push.ensures.items ∙ ap (λ v. c.loop-place.values.items ++ v ∷ []) c.value_of.ensures)
