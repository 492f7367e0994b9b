use Rattle.jr_typing_rules.proofs.PartsFit.{headers-fit}
use Rattle.jr_typing_rules.proofs.laws.headers_fit.Goals as goal

pub returns : goal.returns
returns c = headers-fit
