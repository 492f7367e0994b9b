use Rattle.std.proofs.Common.{◌≡◌, Some, sym, ◌∙◌, ap, subst, arith}
use Rattle.jr_program.specs.Programs.{numbered}
use Rattle.jr_monitors.specs.declared.member.Member.{Member}
use Rattle.jr_monitors.specs.declared.member.Stay.{Stay}
use Rattle.jr_monitors.specs.Roster.{Roster, Owned, Stays}
use Rattle.jr_monitors.proofs.Steps.{wake-agrees, wake-nobody, rest-of}
use Rattle.jr_monitors.proofs.monitors.Monitors.rouse.Goals as goal

pub returns-in-Some-stay-clause-after : goal.returns-in-Some-stay-clause-after
returns-in-Some-stay-clause-after c =
    let is = sym (ap (λ (r : Roster). numbered r.members c.args.guest.0) c.self.view_is) ∙ (sym c.get.ensures.member ∙ c.in-Some.is) in
    wake-agrees c.args.self.now c.args.guest c.in-Some.member is c.in-Some-stay.stay c.in-Some-stay.is c.stay.new.self c.stay.ensures.owned
    (subst (λ (s : Stay). Stays c.args.self.now.members c.args.guest (Some s) c.stay.new.self.members) c.woken.ensures c.stay.ensures.stays)

pub returns-in-Some-stay-clause-rest : goal.returns-in-Some-stay-clause-rest
returns-in-Some-stay-clause-rest c =
    let is = sym (ap (λ (r : Roster). numbered r.members c.args.guest.0) c.self.view_is) ∙ (sym c.get.ensures.member ∙ c.in-Some.is) in
    let e = ap (λ (o : Owned). o.spare) c.stay.ensures.owned in
    rest-of c.args.self.now c.args.guest (Some c.woken.result) c.in-Some.member is c.stay.new.self c.stay.ensures.stays (omega (arith, e))

pub returns-in_default-stay-clause-after : goal.returns-in_default-stay-clause-after
returns-in_default-stay-clause-after c =
    let is = sym (ap (λ (r : Roster). numbered r.members c.args.guest.0) c.self.view_is) ∙ (sym c.get.ensures.member ∙ c.in-Some.is) in
    wake-nobody c.args.self.now c.args.guest (λ m at.
    let e : m ≡ c.in-Some.member = cc in ap (λ (x : Member). x.stay) e ∙ c.in_default-stay.is)

pub returns-in_default-clause-after : goal.returns-in_default-clause-after
returns-in_default-clause-after c =
    let is = sym (ap (λ (r : Roster). numbered r.members c.args.guest.0) c.self.view_is) ∙ (sym c.get.ensures.member ∙ c.in_default.is) in
    wake-nobody c.args.self.now c.args.guest (λ m at. absurd (cc))
