use Rattle.jr_jml_parser.proofs.Pieces.{condition_fits}
use Rattle.jr_jml_parser.proofs.parts.condition.Goals as goal

pub returns : goal.returns
returns c = condition_fits _ _ _ _ _ _ c.in_ok-condition.ensures c.in_ok-behind.ensures
