use Rattle.std.proofs.Common.{rules, ap, ◌∙◌}
use Rattle.jr_turn.proofs.Take.{takes_turn, hit_tells, there}
use Rattle.jr_turn.proofs.lock.Lock.wait_for.Goals as goal

pub load-served-requires : goal.load-served-requires
load-served-requires g c =
    let i = c.loop.invariant in let q = c.requires in (
      search rules,
      search rules,
      takes_turn _ _ _ _ _ _ _ _ q.drawn.0 c.loop.seat.me (ap (λ m. m.0.spent) i.me ∙ q.idle.0) (ap (λ m. m.0.out) i.me ∙ q.idle.1) (ap (λ m. m.0.given) i.me ∙ q.idle.2) (ap (λ m. m.0.drawn) i.me ∙ q.drawn.1),
    )

pub exchange-requires : goal.exchange-requires
exchange-requires g c =
    let i = c.loop.invariant in let q = c.requires in
    let got = hit_tells _ _ _ _ _ c.loop.seat.me c.args.seat.now.me c.load-served.new.seat.me c.load-served.result q.drawn.0 c.args.number i.me q.drawn.1 q.drawn.2 c.if-served-number.true c.load-served.ensures.2 in
    (search rules, there _ _ _ _ _ _ _ got)
