use Rattle.jr_typing_rules.proofs.PartsFit.{fields-fit}
use Rattle.jr_typing_rules.proofs.laws.fields_fit.Goals as goal

pub returns : goal.returns
returns c = fields-fit
