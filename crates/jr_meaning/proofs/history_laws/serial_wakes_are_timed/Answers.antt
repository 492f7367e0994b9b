use Rattle.jr_meaning.proofs.SerialRuns.{serial-timed}
use Rattle.jr_meaning.proofs.history_laws.serial_wakes_are_timed.Goals as goal

pub returns : goal.returns
returns c = serial-timed
