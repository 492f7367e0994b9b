use Rattle.jr_meaning.proofs.Cells.{cells-belong}
use Rattle.jr_meaning.proofs.history_laws.cells_belong_to_objects.Goals as goal

pub returns : goal.returns
returns c = cells-belong
