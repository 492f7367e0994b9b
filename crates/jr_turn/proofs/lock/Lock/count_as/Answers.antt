use Rattle.std.proofs.Common.{rules}
use Rattle.jr_turn.proofs.Count.{counts}
use Rattle.jr_turn.proofs.lock.Lock.count_as.Goals as goal

pub fetch_add-requires : goal.fetch_add-requires
fetch_add-requires g c = let q = c.requires in (q.table, search rules, counts _ _ _ _ _ _ _ _ _ _ q.entry.1 q.holds.0 q.holds.1 q.entry.2 q.room)
