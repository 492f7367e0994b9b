use Rattle.jr_meaning.proofs.OwedLists.{owed-empty}
use Rattle.jr_meaning.proofs.history_laws.owed_lists_tell.Goals as goal

pub returns : goal.returns
returns c = owed-empty
