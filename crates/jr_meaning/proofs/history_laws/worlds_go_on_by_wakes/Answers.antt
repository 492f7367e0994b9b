use Rattle.jr_meaning.proofs.Histories.{world_after-wake}
use Rattle.jr_meaning.proofs.history_laws.worlds_go_on_by_wakes.Goals as goal

pub returns : goal.returns
returns c = world_after-wake
