use Rattle.jr_meaning.proofs.Values.{verdicts-are-values}
use Rattle.jr_meaning.proofs.history_laws.verdicts_are_values.Goals as goal

pub returns : goal.returns
returns c = verdicts-are-values
