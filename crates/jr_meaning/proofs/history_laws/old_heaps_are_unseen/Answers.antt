use Rattle.jr_meaning.proofs.OldHeap.{value-unseen}
use Rattle.jr_meaning.proofs.history_laws.old_heaps_are_unseen.Goals as goal

pub returns : goal.returns
returns c = value-unseen
