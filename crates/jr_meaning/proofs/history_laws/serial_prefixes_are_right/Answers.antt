use Rattle.jr_meaning.proofs.SerialPrefixes.{prefix-right}
use Rattle.jr_meaning.proofs.history_laws.serial_prefixes_are_right.Goals as goal

pub returns : goal.returns
returns c = prefix-right
