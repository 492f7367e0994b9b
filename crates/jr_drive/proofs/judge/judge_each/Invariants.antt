use Rattle.std.proofs.Common.{◌≡◌, ◌≤◌, ◌++◌, map, take}
use Rattle.jr_heap.specs.Plain.{seen_in}
use Rattle.jr_program.specs.UnitViews.{program_of}
use Rattle.jr_clause_eval.specs.Scenes.{environment_of}
use Rattle.jr_drive.specs.DueThere.{numbers_in}
use Rattle.jr_drive.specs.Moment.{moment_value}
use Rattle.jr_drive.proofs.judge.judge_each.Given as goal

abbrev pub invariant-loop-place : goal.invariant-loop-place
invariant-loop-place l =
    l.values.items ≡ l.initial.values.items ++ map (moment_value (program_of l.unit) (seen_in l.heap) (environment_of l.env)) (take l.place (numbers_in l.due))
