use Rattle.std.proofs.Common.{[], sym, subst}
use Rattle.jr_meaning.specs.Machine.{with_monitor}
use Rattle.jr_monitors.specs.Roster.{Roster, hold_in, kept_in, world_of}
use Rattle.jr_monitors.specs.Stands.{Agree, KeepsRest}
use Rattle.jr_monitors.proofs.Steps.{wake_all-agrees, wake_all-rest}
use Rattle.jr_monitors.proofs.monitors.Monitors.notify_all.Goals as goal

pub returns-clause-after : goal.returns-clause-after
returns-clause-after c =
    let r : Roster = record { owned = c.self.inside.owned; members = c.self.inside.members } in
    subst (λ (r : Roster). Agree (world_of (record { owned = c.self.inside.owned; members = c.wake_all.new.self }))
    (with_monitor (world_of r) c.args.object (record { hold = hold_in r.owned.owners c.args.object; waiting = []; kept = kept_in r.members c.args.object }))) c.self.view_is
    (subst (λ ms. Agree (world_of (record { owned = c.self.inside.owned; members = ms }))
    (with_monitor (world_of r) c.args.object (record { hold = hold_in r.owned.owners c.args.object; waiting = []; kept = kept_in r.members c.args.object })))
    (sym c.wake_all.ensures) (wake_all-agrees r c.args.object))

pub returns-clause-rest : goal.returns-clause-rest
returns-clause-rest c =
    let r : Roster = record { owned = c.self.inside.owned; members = c.self.inside.members } in
    subst (λ (r : Roster). KeepsRest r (record { owned = c.self.inside.owned; members = c.wake_all.new.self })) c.self.view_is
    (subst (λ ms. KeepsRest r (record { owned = c.self.inside.owned; members = ms })) (sym c.wake_all.ensures) (wake_all-rest r c.args.object))
