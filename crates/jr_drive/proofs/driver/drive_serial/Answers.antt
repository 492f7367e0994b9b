use Rattle.jr_program.specs.UnitViews.{program_of}
use Rattle.jr_drive.proofs.Reaching.{whole-cut-off}
use Rattle.jr_drive.proofs.driver.drive_serial.Goals as goal
use Rattle.jr_drive.proofs.driver.drive_serial.Goals.{in-Ok, in-Err}

pub returns-clause-cut_off : goal.returns-clause-cut_off
returns-clause-cut_off c memory = elim c.match-run.branch [
  | in-Ok w ↦ whole-cut-off (program_of c.args.program) c.args.budget c.run.new.journal.entries _ w.in-Ok.ensures.ok
  | in-Err w ↦ w.in-Err.ensures.memory
]
