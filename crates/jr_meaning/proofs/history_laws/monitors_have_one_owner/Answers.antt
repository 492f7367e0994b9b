use Rattle.jr_meaning.proofs.Monitors.{one-owner}
use Rattle.jr_meaning.proofs.history_laws.monitors_have_one_owner.Goals as goal

pub returns : goal.returns
returns c = one-owner
