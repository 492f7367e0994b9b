use Rattle.std.proofs.Common.{rules}
use Rattle.jr_turn.proofs.Join.{joins}
use Rattle.jr_turn.proofs.lock.Lock.join.Goals as goal

pub join_seat-requires : goal.join_seat-requires
join_seat-requires g c = let q = c.requires in (q.table.0, q.table.1, q.other.2, search rules, joins _ _ _ _ _ _ _ _ _ q.first.0 q.first.1 q.other.0 q.other.1)
