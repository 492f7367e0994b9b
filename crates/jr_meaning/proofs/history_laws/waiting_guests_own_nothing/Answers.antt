use Rattle.jr_meaning.proofs.WaitSets.{waiting-owns-nothing}
use Rattle.jr_meaning.proofs.history_laws.waiting_guests_own_nothing.Goals as goal

pub returns : goal.returns
returns c = waiting-owns-nothing
