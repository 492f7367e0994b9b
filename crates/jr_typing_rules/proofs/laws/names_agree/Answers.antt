use Rattle.jr_typing_rules.proofs.NamesAgree.{names-agree}
use Rattle.jr_typing_rules.proofs.laws.names_agree.Goals as goal

pub returns : goal.returns
returns c = names-agree
