use Rattle.jr_meaning.proofs.Counted.{few-cells}
use Rattle.jr_meaning.proofs.history_laws.cells_are_few.Goals as goal

pub returns : goal.returns
returns c = few-cells
