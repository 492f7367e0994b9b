use Rattle.jr_code.proofs.Paths.{stands_on_path}
use Rattle.jr_code.proofs.WellFormed.{right, unbroken}
use Rattle.jr_code.proofs.laws.well_formed_code_breaks_no_rule.Goals as goal

pub returns : goal.returns
returns c = record { right = right; unbroken = unbroken; forced = stands_on_path }
