use Rattle.jr_turn.proofs.Close.{closes_full, closes_value}
use Rattle.jr_turn.proofs.lock.Lock.close.Goals as goal

pub unreachable-requires : goal.unreachable-requires
unreachable-requires g c = let q = c.requires.first in closes_full _ _ _ _ _ _ _ _ _ _ q.0 q.1 q.2 q.3 c.close_with-closed.ensures.values.2 c.take.ensures.value c.in_default.is

pub returns : goal.returns
returns g c = let q = c.requires.first in closes_value _ _ _ _ _ _ _ _ _ _ _ q.0 q.1 q.2 q.3 c.close_with-closed.ensures.values.2 c.take.ensures.value c.in-Some.is
