use Rattle.jr_code.proofs.Forced.{forced}
use Rattle.jr_code.proofs.laws.kinds_are_forced.Goals as goal

pub returns : goal.returns
returns c = forced
