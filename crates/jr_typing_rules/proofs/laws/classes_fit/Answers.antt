use Rattle.jr_typing_rules.proofs.PartsFit.{classes-fit}
use Rattle.jr_typing_rules.proofs.laws.classes_fit.Goals as goal

pub returns : goal.returns
returns c = classes-fit
