use Rattle.jr_meaning.proofs.Finishes.{one-kind}
use Rattle.jr_meaning.proofs.history_laws.finishes_exclude_each_other.Goals as goal

pub returns : goal.returns
returns c = one-kind
