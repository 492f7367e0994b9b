use Rattle.jr_meaning.proofs.Counted.{objects-first}
use Rattle.jr_meaning.proofs.history_laws.objects_come_before_cells.Goals as goal

pub returns : goal.returns
returns c = objects-first
