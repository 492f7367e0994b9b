use Rattle.jr_meaning.proofs.OwedLists.{moment-before}
use Rattle.jr_meaning.proofs.history_laws.moments_are_of_their_steps.Goals as goal

pub returns : goal.returns
returns c = moment-before
