use Rattle.jr_token_laws.proofs.Reread.{one_reading}
use Rattle.jr_token_laws.proofs.source_laws.elements_leave_no_choice.Goals as goal

pub returns : goal.returns
returns c = one_reading
