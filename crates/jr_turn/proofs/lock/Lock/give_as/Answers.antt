use Rattle.std.proofs.Common.{rules, ap}
use Rattle.jr_turn.proofs.Give.{gives_back_from}
use Rattle.jr_turn.proofs.Serve.{serves_from}
use Rattle.jr_turn.proofs.lock.Lock.give_as.Goals as goal

pub load-requires : goal.load-requires
load-requires g c = let e = c.exchange.ensures in let q = c.requires in (search rules, search rules, gives_back_from _ _ _ _ _ _ _ c.args.seat.now.me c.exchange.new.seat.me c.args.value _ e.3 q.holds.2 q.holds.0 q.holds.1 q.fits)

pub fetch_add-requires : goal.fetch_add-requires
fetch_add-requires g c = (search rules, search rules, serves_from _ _ _ _ _ _ _ c.args.seat.now.me.0 c.exchange.new.seat.me c.load.new.seat.me _ (ap (λ m. m.0) c.exchange.ensures.3) c.load.ensures.2 c.requires.holds.0)
