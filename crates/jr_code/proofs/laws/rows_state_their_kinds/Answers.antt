use Rattle.jr_code.proofs.Rows.{row_holds}
use Rattle.jr_code.proofs.laws.rows_state_their_kinds.Goals as goal

pub returns : goal.returns
returns c = row_holds
