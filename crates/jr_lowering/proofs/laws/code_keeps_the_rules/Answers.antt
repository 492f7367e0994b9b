use Rattle.jr_lowering.proofs.RightMethods.{code_right}
use Rattle.jr_lowering.proofs.laws.code_keeps_the_rules.Goals as goal

pub returns : goal.returns
returns c = code_right
