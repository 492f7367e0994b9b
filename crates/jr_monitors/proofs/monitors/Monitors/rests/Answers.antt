use Rattle.std.proofs.Common.{◌≡◌, ◌↔◌, ◌&&◌, Bool, false, not, IsTrue, refl, sym, ◌∙◌, ap, subst}
use Rattle.jr_monitors.specs.Roster.{is_timed_stay}
use Rattle.jr_monitors.proofs.Stuck.{Rests, ended-rests, parked-nowhere, parked-rests}
use Rattle.jr_monitors.proofs.monitors.Monitors.rests.Goals as goal

pub returns-then-member : goal.returns-then-member
returns-then-member c = λ world stands.
    (λ holds. ended-rests c.args.self.now world stands c.args.guest c.args.member c.requires c.if-member.true, λ rests. refl)

pub returns-then-not-parked_ready : goal.returns-then-not-parked_ready
returns-then-not-parked_ready c = λ world stands.
    let timed = c.is_timed.result in
    subst (λ b. IsTrue b ↔ Rests c.args.self.now world c.args.guest) (ap (λ b. not b && not timed) c.if-not-parked_ready.true)
    (parked-rests c.args.self.now world stands c.args.guest c.args.member c.requires c.in-Some.parked c.in-Some.is c.parked_ready.result timed c.parked_ready.ensures c.is_timed.ensures c.if-member.false)

-- where the action is ready, the rest doesn't matter
not-and : (a b : Bool) → a ≡ false → (a && b) ≡ a
not-and a b is = ap (λ x. x && b) is ∙ sym is

pub returns-else-not-parked_ready : goal.returns-else-not-parked_ready
returns-else-not-parked_ready c = λ world stands.
    let timed = is_timed_stay c.args.member.stay in
    subst (λ b. IsTrue b ↔ Rests c.args.self.now world c.args.guest) (not-and (not c.parked_ready.result) (not timed) (ap not c.if-not-parked_ready.false))
    (parked-rests c.args.self.now world stands c.args.guest c.args.member c.requires c.in-Some.parked c.in-Some.is c.parked_ready.result timed c.parked_ready.ensures refl c.if-member.false)

pub returns-in-None : goal.returns-in-None
returns-in-None c = λ world stands.
    (λ holds. absurd (cc), λ rests. parked-nowhere c.args.self.now world stands c.args.guest c.args.member c.requires c.if-member.false c.in-None.is rests)
