use Rattle.jr_code.proofs.Depths.{runs_within, waits_within}
use Rattle.jr_code.proofs.laws.operands_find_room.Goals as goal

pub returns : goal.returns
returns c = record { runs = runs_within; waits = waits_within }
