use Rattle.jr_code.proofs.Safe.{step_sound}
use Rattle.jr_code.proofs.laws.checked_code_goes_on.Goals as goal

pub returns : goal.returns
returns c = step_sound
