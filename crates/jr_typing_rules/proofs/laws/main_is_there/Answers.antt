use Rattle.jr_typing_rules.proofs.Lawful.{main-is-there}
use Rattle.jr_typing_rules.proofs.laws.main_is_there.Goals as goal

pub returns : goal.returns
returns c = main-is-there
