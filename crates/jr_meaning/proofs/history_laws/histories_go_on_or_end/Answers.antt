use Rattle.jr_meaning.proofs.SerialRuns.{goes-on-or-ends}
use Rattle.jr_meaning.proofs.history_laws.histories_go_on_or_end.Goals as goal

pub returns : goal.returns
returns c = goes-on-or-ends
