use Rattle.jr_typing_rules.proofs.Bodies.{bodies-fit}
use Rattle.jr_typing_rules.proofs.laws.bodies_fit.Goals as goal

pub returns : goal.returns
returns c = bodies-fit
