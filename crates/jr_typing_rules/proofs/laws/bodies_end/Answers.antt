use Rattle.jr_typing_rules.proofs.Lawful.{bodies-end}
use Rattle.jr_typing_rules.proofs.laws.bodies_end.Goals as goal

pub returns : goal.returns
returns c = bodies-end
