use Rattle.jr_meaning.proofs.Counted.{few-objects}
use Rattle.jr_meaning.proofs.history_laws.objects_are_few.Goals as goal

pub returns : goal.returns
returns c = few-objects
