use Rattle.jr_meaning.proofs.Values.{verdicts-rise}
use Rattle.jr_meaning.proofs.history_laws.verdicts_rise.Goals as goal

pub returns : goal.returns
returns c = verdicts-rise
