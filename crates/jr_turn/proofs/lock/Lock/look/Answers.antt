use Rattle.std.proofs.Common.{rules}
use Rattle.jr_turn.proofs.Look.{looks}
use Rattle.jr_turn.proofs.lock.Lock.look.Goals as goal

pub load-requires : goal.load-requires
load-requires g c = let q = c.requires in (q.table, search rules, looks _ _ _ _ _ _ _ _ q.live)
