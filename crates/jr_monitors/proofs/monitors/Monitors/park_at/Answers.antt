use Rattle.std.proofs.Common.{◌≡◌, cond, option_map, refl, sym, ◌∙◌, ap, subst}
use Rattle.jr_meaning.specs.World.{same_guest}
use Rattle.jr_monitors.specs.Roster.{Roster, deed_at, parked_in, parked_of, world_of}
use Rattle.jr_monitors.specs.Stands.{Agree}
use Rattle.jr_program.specs.Programs.{numbered}
use Rattle.jr_monitors.proofs.Steps.{live-there}
use Rattle.jr_monitors.proofs.Rosters.{parked-set, agree-stay}
use Rattle.jr_monitors.proofs.monitors.Monitors.park_at.Goals as goal

pub returns-in-Some-clause-parked : goal.returns-in-Some-clause-parked
returns-in-Some-clause-parked c = λ other.
    subst (λ (r : Roster). parked_in c.set.new.self other ≡ cond (same_guest other c.args.guest) (option_map deed_at c.args.parked) (parked_of r other)) c.self.view_is
    (ap (λ ms. parked_in ms other) c.set.ensures ∙ parked-set c.self.inside.members c.args.guest c.in-Some.member (record c.in-Some.member { parked = c.args.parked }) (sym c.get.ensures.member ∙ c.in-Some.is) other)

pub returns-in-Some-clause-world : goal.returns-in-Some-clause-world
returns-in-Some-clause-world c =
    subst (λ (r : Roster). Agree (world_of (record { owned = c.self.inside.owned; members = c.set.new.self })) (world_of r)) c.self.view_is
    (subst (λ ms. Agree (world_of (record { owned = c.self.inside.owned; members = ms })) (world_of (record { owned = c.self.inside.owned; members = c.self.inside.members }))) (sym c.set.ensures)
    (agree-stay c.self.inside.members c.args.guest c.in-Some.member (record c.in-Some.member { parked = c.args.parked }) (sym c.get.ensures.member ∙ c.in-Some.is) c.self.inside.owned refl refl))

pub returns-in_default-clause-parked : goal.returns-in_default-clause-parked
returns-in_default-clause-parked c =
    let there = live-there c.args.self.now c.args.guest c.requires in
    absurd (c.in_default.not-Some there.0 (c.get.ensures.member ∙ (ap (λ (r : Roster). numbered r.members c.args.guest.0) c.self.view_is ∙ there.1)))
