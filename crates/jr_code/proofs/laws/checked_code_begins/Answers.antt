use Rattle.jr_code.proofs.Safe.{start_sound}
use Rattle.jr_code.proofs.laws.checked_code_begins.Goals as goal

pub returns : goal.returns
returns c = start_sound
