use Rattle.jr_meaning.proofs.SerialRuns.{serial-right}
use Rattle.jr_meaning.proofs.history_laws.serial_runs_are_right.Goals as goal

pub returns : goal.returns
returns c = serial-right
