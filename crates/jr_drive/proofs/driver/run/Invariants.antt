use Rattle.std.proofs.Common.{◌-◌}
use Rattle.jr_program.specs.UnitViews.{program_of}
use Rattle.jr_drive.specs.Runs.{GoesOn}
use Rattle.jr_drive.proofs.driver.run.Given as goal

abbrev pub invariant-loop-run : goal.invariant-loop-run
invariant-loop-run l = GoesOn (program_of l.program) l.budget l.journal.entries l.run

abbrev pub decreases-loop-run : goal.decreases-loop-run
decreases-loop-run l = l.budget - l.run.steps
