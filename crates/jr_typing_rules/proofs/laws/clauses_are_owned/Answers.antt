use Rattle.jr_typing_rules.proofs.Owning.{clauses-owned}
use Rattle.jr_typing_rules.proofs.laws.clauses_are_owned.Goals as goal

pub returns : goal.returns
returns c = clauses-owned
