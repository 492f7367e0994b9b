use Rattle.jr_meaning.proofs.Choices.{world_after-moves}
use Rattle.jr_meaning.proofs.history_laws.verdicts_change_nothing.Goals as goal

pub returns : goal.returns
returns c = world_after-moves
