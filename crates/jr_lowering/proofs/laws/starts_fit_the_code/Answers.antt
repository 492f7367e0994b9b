use Rattle.jr_lowering.proofs.RightMethods.{start_right}
use Rattle.jr_lowering.proofs.laws.starts_fit_the_code.Goals as goal

pub returns : goal.returns
returns c = start_right
