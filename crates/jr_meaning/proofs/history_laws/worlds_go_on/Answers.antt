use Rattle.jr_meaning.proofs.Histories.{world_after-step}
use Rattle.jr_meaning.proofs.history_laws.worlds_go_on.Goals as goal

pub returns : goal.returns
returns c = world_after-step
