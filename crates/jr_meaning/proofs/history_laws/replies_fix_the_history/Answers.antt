use Rattle.jr_meaning.proofs.Choices.{same-moves}
use Rattle.jr_meaning.proofs.history_laws.replies_fix_the_history.Goals as goal

pub returns : goal.returns
returns c = same-moves
