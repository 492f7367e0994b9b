use Rattle.jr_meaning.specs.Verdicts.{MayStand}
use Rattle.jr_meaning.proofs.Histories.{Each-prefix}
use Rattle.jr_meaning.proofs.history_laws.prefixes_are_right.Goals as goal

pub returns : goal.returns
returns c = λ program h more right. Each-prefix (MayStand program) h more right
