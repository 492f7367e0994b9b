use Rattle.jr_typing_rules.proofs.WellTyped.{typed-well}
use Rattle.jr_typing_rules.proofs.laws.typed_is_well_formed.Goals as goal

pub returns : goal.returns
returns c = typed-well
