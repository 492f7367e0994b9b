use Rattle.jr_ops.proofs.Rows.{no_twins}
use Rattle.jr_ops.proofs.table.words_differ.Goals as goal

pub returns : goal.returns
returns c = no_twins
