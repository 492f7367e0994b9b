use Rattle.jr_reading.proofs.Places.{within_same}
use Rattle.jr_reading.proofs.view.View.sees.Goals as goal

pub returns-clause-within : goal.returns-clause-within
returns-clause-within c = within_same c.seen.result _ _ _ c.same_kind.ensures c.seen.ensures.within
