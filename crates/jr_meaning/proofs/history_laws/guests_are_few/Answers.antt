use Rattle.jr_meaning.proofs.Limited.{few-guests}
use Rattle.jr_meaning.proofs.history_laws.guests_are_few.Goals as goal

pub returns : goal.returns
returns c = few-guests
