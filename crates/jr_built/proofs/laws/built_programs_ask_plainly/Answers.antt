use Rattle.jr_built.proofs.Plain.{asks-plainly}
use Rattle.jr_built.proofs.laws.built_programs_ask_plainly.Goals as goal

pub returns : goal.returns
returns c = asks-plainly
