use Rattle.std.proofs.Common.{sym, subst}
use Rattle.jr_program.specs.UnitViews.{program_of}
use Rattle.jr_drive.specs.Runs.{GoesOn}
use Rattle.jr_drive.proofs.driver.run.Goals as goal

pub loop-run-init : goal.loop-run-init
loop-run-init c = subst (λ h. GoesOn (program_of c.args.program.now) c.args.budget h c.in_ok-run.run') (sym c.requires.empty) (c.in_ok-run.ensures c.args.budget)
