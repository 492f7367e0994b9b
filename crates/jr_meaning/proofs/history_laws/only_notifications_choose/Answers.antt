use Rattle.jr_meaning.proofs.Choices.{notify-chooses}
use Rattle.jr_meaning.proofs.history_laws.only_notifications_choose.Goals as goal

pub returns : goal.returns
returns c = notify-chooses
