use Rattle.jr_typing_rules.proofs.WellTyped.{clauses-fit}
use Rattle.jr_typing_rules.proofs.laws.clauses_fit.Goals as goal

pub returns : goal.returns
returns c = clauses-fit
