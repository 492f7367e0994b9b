use Rattle.jr_meaning.proofs.SerialRuns.{serial-ends}
use Rattle.jr_meaning.proofs.history_laws.serial_runs_end.Goals as goal

pub returns : goal.returns
returns c = serial-ends
