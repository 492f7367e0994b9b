use Rattle.std.proofs.Common.{sym, ◌∙◌, subst}
use Rattle.jr_meaning.specs.World.{guest_at}
use Rattle.jr_meaning.specs.Machine.{mark_ended}
use Rattle.jr_monitors.specs.Roster.{Roster, world_of}
use Rattle.jr_monitors.specs.Stands.{Agree, KeepsRest}
use Rattle.jr_monitors.proofs.Steps.{end-agrees, end-rest, end-nobody}
use Rattle.jr_monitors.proofs.monitors.Monitors.end.Goals as goal

pub returns-in-Some-clause-after : goal.returns-in-Some-clause-after
returns-in-Some-clause-after c =
    let r : Roster = record { owned = c.self.inside.owned; members = c.self.inside.members } in
    subst (λ (r : Roster). Agree (world_of (record { owned = c.self.inside.owned; members = c.set.new.self })) (mark_ended (world_of r) c.args.guest (guest_at (world_of r) c.args.guest))) c.self.view_is
    (subst (λ ms. Agree (world_of (record { owned = c.self.inside.owned; members = ms })) (mark_ended (world_of r) c.args.guest (guest_at (world_of r) c.args.guest))) (sym c.set.ensures)
    (end-agrees r c.args.guest c.in-Some.member (sym c.get.ensures.member ∙ c.in-Some.is)))

pub returns-in-Some-clause-rest : goal.returns-in-Some-clause-rest
returns-in-Some-clause-rest c =
    let r : Roster = record { owned = c.self.inside.owned; members = c.self.inside.members } in
    subst (λ (r : Roster). KeepsRest r (record { owned = c.self.inside.owned; members = c.set.new.self })) c.self.view_is
    (subst (λ ms. KeepsRest r (record { owned = c.self.inside.owned; members = ms })) (sym c.set.ensures) (end-rest r c.args.guest c.in-Some.member (sym c.get.ensures.member ∙ c.in-Some.is)))

pub returns-in_default-clause-after : goal.returns-in_default-clause-after
returns-in_default-clause-after c =
    let r : Roster = record { owned = c.self.inside.owned; members = c.self.inside.members } in
    subst (λ (r : Roster). Agree (world_of r) (mark_ended (world_of r) c.args.guest (guest_at (world_of r) c.args.guest))) c.self.view_is
    (end-nobody r c.args.guest (sym c.get.ensures.member ∙ c.in_default.is))
