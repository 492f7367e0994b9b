use Rattle.std.proofs.Common.{List, Some, None, sym, ap, subst, arith}
use Rattle.jr_monitors.specs.declared.member.Member.{Member}
use Rattle.jr_monitors.specs.Roster.{Owned, owner_in, Owns, Stays}
use Rattle.jr_monitors.proofs.Steps.{live-there, no-stay, owning, owning-is, wait-agrees, rest-of}
use Rattle.jr_monitors.proofs.monitors.Monitors.wait.Goals as goal

pub give_up-requires : goal.give_up-requires
give_up-requires c = owning c.args.guest (owner_in c.args.self.now.owned.owners c.args.object) c.depth.result c.in-Some.depth c.depth.ensures c.in-Some.is

pub returns-clause-after : goal.returns-clause-after
returns-clause-after c = λ w joins.
    let there = live-there c.args.self.now c.args.guest c.requires.live in
    wait-agrees c.args.self.now c.args.guest there.0 there.1 c.args.object c.in-Some.depth c.args.stage w joins
    (no-stay c.args.self.now c.args.guest there.0 there.1 c.requires.awake) c.stay.new.self
    (subst (λ (o : Owned). Owns c.args.self.now.owned.owners c.args.object None o.owners) (sym c.stay.ensures.owned)
    c.give_up.ensures.free)
    (subst (λ (ms : List Member). Stays ms c.args.guest (Some (record { object = c.args.object; depth = c.in-Some.depth; stage = c.args.stage })) c.stay.new.self.members) c.give_up.ensures.members c.stay.ensures.stays)
    (owning-is c.args.guest (owner_in c.args.self.now.owned.owners c.args.object) c.depth.result c.in-Some.depth c.depth.ensures c.in-Some.is)

pub returns-clause-rest : goal.returns-clause-rest
returns-clause-rest c =
    let there = live-there c.args.self.now c.args.guest c.requires.live in
    let e = ap (λ (o : Owned). o.spare) c.stay.ensures.owned in
    rest-of c.args.self.now c.args.guest (Some (record { object = c.args.object; depth = c.in-Some.depth; stage = c.args.stage })) there.0 there.1 c.stay.new.self
    (subst (λ (ms : List Member). Stays ms c.args.guest (Some (record { object = c.args.object; depth = c.in-Some.depth; stage = c.args.stage })) c.stay.new.self.members) c.give_up.ensures.members c.stay.ensures.stays)
    (let l = c.give_up.ensures.spare in omega (arith, e, l))
