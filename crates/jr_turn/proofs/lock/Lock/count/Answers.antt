use Rattle.std.proofs.Common.{None, ap}
use Rattle.jr_turn.specs.Views.{with_drawn}
use Rattle.jr_turn.proofs.Rest.{last_is, counted_rest}
use Rattle.jr_turn.proofs.lock.Lock.count.Goals as goal

pub count_as-requires-clause-entry : goal.count_as-requires-clause-entry
count_as-requires-clause-entry g c = let q = c.requires.entry in (q.0, last_is _ _ _ q.1, q.2)

pub returns-clause-rest : goal.returns-clause-rest
returns-clause-rest g c = let q = c.requires.entry in counted_rest c.args.seat.now.me _ _ g.V.Annal.guest c.requires.holds.0 c.requires.rest (c.count_as.ensures.counted q.0 (last_is _ _ _ q.1))

pub returns-clause-counted : goal.returns-clause-counted
returns-clause-counted g c = λ e l. ap (λ m. with_drawn m.0 None) (c.count_as.ensures.counted e (last_is _ _ _ l))
