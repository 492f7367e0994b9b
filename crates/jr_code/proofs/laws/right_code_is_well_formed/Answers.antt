use Rattle.jr_code.proofs.WellFormed.{well_formed}
use Rattle.jr_code.proofs.laws.right_code_is_well_formed.Goals as goal

pub returns : goal.returns
returns c = well_formed
