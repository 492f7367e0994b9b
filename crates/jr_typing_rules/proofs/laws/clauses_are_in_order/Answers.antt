use Rattle.jr_typing_rules.proofs.Lawful.{clauses-are-in-order}
use Rattle.jr_typing_rules.proofs.laws.clauses_are_in_order.Goals as goal

pub returns : goal.returns
returns c = clauses-are-in-order
