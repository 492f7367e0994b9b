use Rattle.jr_code.proofs.Stopping.{asks_next, ends_next}
use Rattle.jr_code.proofs.laws.stopping_changes_nothing.Goals as goal

pub returns : goal.returns
returns c = record { asks = asks_next; ends = ends_next }
