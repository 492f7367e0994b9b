use Rattle.jr_meaning.specs.History.{MayCome}
use Rattle.jr_meaning.proofs.Histories.{Each-prefix}
use Rattle.jr_meaning.proofs.history_laws.prefixes_are_legal.Goals as goal

pub returns : goal.returns
returns c = λ program budget h more legal. Each-prefix (MayCome program budget) h more legal
