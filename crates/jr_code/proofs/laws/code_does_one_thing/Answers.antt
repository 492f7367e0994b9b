use Rattle.jr_code.proofs.Unique.{unique}
use Rattle.jr_code.proofs.laws.code_does_one_thing.Goals as goal

pub returns : goal.returns
returns c = unique
