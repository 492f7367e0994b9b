use Rattle.std.proofs.Common.{Some, None, sym, ◌∙◌, ap, subst, arith}
use Rattle.jr_monitors.specs.Roster.{Roster, Owned, Owns, Stays}
use Rattle.jr_program.specs.Programs.{numbered}
use Rattle.jr_monitors.proofs.Steps.{live-there, live-number, rest-of}
use Rattle.jr_monitors.proofs.Notices.{resume-agrees, take-apart, stay-none}
use Rattle.jr_monitors.proofs.monitors.Monitors.resume.Goals as goal

pub take-requires-clause-last : goal.take-requires-clause-last
take-requires-clause-last c = live-number c.args.self.now c.args.guest c.requires.few c.requires.live

pub invariant_of-self : goal.invariant_of-self
invariant_of-self c =
    let there = live-there c.args.self.now c.args.guest c.requires.live in
    let inside = c.self-in-Some.inside in
    let stays = subst (λ (r : Roster). Stays c.args.self.now.members c.args.guest None r.members) (sym c.self-in-Some.view_is) c.stay-in-Some.ensures.stays in
    take-apart inside.owned.owners c.take.new.self.owners inside.members c.args.guest c.args.object c.in-Some.stay.depth c.self-in-Some.invariant
    (stay-none c.args.self.now.members inside.members c.args.guest there.0 there.1 stays) c.take.ensures.owner

pub returns-in-Some-clause-after : goal.returns-in-Some-clause-after
returns-in-Some-clause-after c =
    let there = live-there c.args.self.now c.args.guest c.requires.live in
    let inside = c.self-in-Some.inside in
    let stays = subst (λ (r : Roster). Stays c.args.self.now.members c.args.guest None r.members) (sym c.self-in-Some.view_is) c.stay-in-Some.ensures.stays in
    let has = sym (c.stay.ensures.stay there.0 (ap (λ (r : Roster). numbered r.members c.args.guest.0) c.self.view_is ∙ there.1)) ∙ c.in-Some.is in
    resume-agrees c.args.self.now c.args.guest there.0 there.1 c.args.object c.in-Some.stay has c.requires.ready
    (record { owned = c.take.new.self; members = inside.members })
    (subst (λ (o : Owned). Owns o.owners c.args.object (Some (record { guest = c.args.guest; depth = c.in-Some.stay.depth })) c.take.new.self.owners)
    (ap (λ (r : Roster). r.owned) c.self-in-Some.view_is ∙ c.stay-in-Some.ensures.owned) c.take.ensures.owner)
    stays

pub returns-in-Some-clause-rest : goal.returns-in-Some-clause-rest
returns-in-Some-clause-rest c =
    let there = live-there c.args.self.now c.args.guest c.requires.live in
    let inside = c.self-in-Some.inside in
    let stays = subst (λ (r : Roster). Stays c.args.self.now.members c.args.guest None r.members) (sym c.self-in-Some.view_is) c.stay-in-Some.ensures.stays in
    let e = ap (λ (o : Owned). o.spare) (ap (λ (r : Roster). r.owned) c.self-in-Some.view_is ∙ c.stay-in-Some.ensures.owned) in
    rest-of c.args.self.now c.args.guest None there.0 there.1 (record { owned = c.take.new.self; members = inside.members }) stays
    (let s = c.take.ensures.spare in omega (arith, e, s))
