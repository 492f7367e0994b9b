use Rattle.jr_code.proofs.Tables.{grown}
use Rattle.jr_code.proofs.laws.tables_may_grow.Goals as goal

pub returns : goal.returns
returns c = grown
