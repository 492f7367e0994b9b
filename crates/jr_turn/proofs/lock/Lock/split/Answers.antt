use Rattle.std.proofs.Common.{rules}
use Rattle.jr_turn.proofs.Split.{splits}
use Rattle.jr_turn.proofs.lock.Lock.split.Goals as goal

pub split_seat-requires : goal.split_seat-requires
split_seat-requires g c = let q = c.requires in (q.table, search rules, splits _ _ _ _ _ _ _ q.first.0 q.first.1 q.room)
