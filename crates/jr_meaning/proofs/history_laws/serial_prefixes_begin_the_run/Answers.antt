use Rattle.jr_meaning.proofs.SerialPrefixes.{prefix-begins}
use Rattle.jr_meaning.proofs.history_laws.serial_prefixes_begin_the_run.Goals as goal

pub returns : goal.returns
returns c = prefix-begins
