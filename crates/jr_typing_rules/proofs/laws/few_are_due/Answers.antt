use Rattle.jr_typing_rules.proofs.Lawful.{few-are-due}
use Rattle.jr_typing_rules.proofs.laws.few_are_due.Goals as goal

pub returns : goal.returns
returns c = few-are-due
