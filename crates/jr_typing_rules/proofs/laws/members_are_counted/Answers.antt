use Rattle.jr_typing_rules.proofs.Counted.{counted}
use Rattle.jr_typing_rules.proofs.laws.members_are_counted.Goals as goal

pub returns : goal.returns
returns c = counted
