use Rattle.std.proofs.Common.{◌≡◌, IsSome, length, map, ◌++◌, ◌∷◌, [], Some, None, false, sym, ◌∙◌, ap, subst}
use Rattle.jr_base.specs.declared.action.Reply.TheVariants as replies
use Rattle.jr_meaning.specs.World.{guest_of}
use Rattle.jr_meaning.specs.Machine.{start_reply}
use Rattle.jr_monitors.specs.Roster.{Roster, guest_as, kept_in, world_of, MayStart}
use Rattle.jr_monitors.specs.Stands.{Agree, KeepsRest}
use Rattle.jr_monitors.proofs.Steps.{start-agrees, start-rest, start-kept, started-is, room-to-start, start-refused, start-replied}
use Rattle.jr_monitors.proofs.monitors.Monitors.start.Goals as goal

pub returns-then-is_some-clause-reply : goal.returns-then-is_some-clause-reply
returns-then-is_some-clause-reply c = λ program.
    let r : Roster = record { owned = c.self.inside.owned; members = c.self.inside.members } in
    subst (λ (r : Roster). replies.Illegal ≡ start_reply program (world_of r) c.args.object) c.self.view_is
    (start-refused program r c.args.object (started-is r c.args.object c.run_of.result _ c.run_of.ensures (sym c.is_some.ensures ∙ c.if-is_some.true)))

pub push-started-requires : goal.push-started-requires
push-started-requires c =
    let r : Roster = record { owned = c.self.inside.owned; members = c.self.inside.members } in
    room-to-start (length r.members) (guest_of (world_of r) c.args.object) (subst (λ (r : Roster). MayStart (length r.members) (guest_of (world_of r) c.args.object)) (sym c.self.view_is) c.requires)
    (started-is r c.args.object c.run_of.result _ c.run_of.ensures (sym c.is_some.ensures ∙ c.if-is_some.false))

pub invariant_of-self : goal.invariant_of-self
invariant_of-self c = λ g o has.
    c.self.invariant g o (subst IsSome (ap (λ ms. kept_in ms o g) c.push-started.ensures.members ∙ start-kept c.self.inside.members c.args.object o g) has)

pub returns-clause-reply : goal.returns-clause-reply
returns-clause-reply c = λ program.
    let r : Roster = record { owned = c.self.inside.owned; members = c.self.inside.members } in
    subst (λ (r : Roster). replies.Started c.push-started.result None ≡ start_reply program (world_of r) c.args.object) c.self.view_is
    (start-replied program r c.args.object c.push-started.result (started-is r c.args.object c.run_of.result _ c.run_of.ensures (sym c.is_some.ensures ∙ c.if-is_some.false)) c.push-started.ensures.number)

pub returns-clause-after : goal.returns-clause-after
returns-clause-after c =
    let r : Roster = record { owned = c.self.inside.owned; members = c.self.inside.members } in
    subst (λ (r : Roster). Agree (world_of (record { owned = c.self.inside.owned; members = c.push-started.new.self }))
    (record (world_of r) { guests = map guest_as r.members ++ record { object = Some c.args.object; body = None; ended = false } ∷ [] })) c.self.view_is
    (subst (λ ms. Agree (world_of (record { owned = c.self.inside.owned; members = ms }))
    (record (world_of r) { guests = map guest_as r.members ++ record { object = Some c.args.object; body = None; ended = false } ∷ [] }))
    (sym c.push-started.ensures.members) (start-agrees r c.args.object))

pub returns-clause-rest : goal.returns-clause-rest
returns-clause-rest c =
    let r : Roster = record { owned = c.self.inside.owned; members = c.self.inside.members } in
    subst (λ (r : Roster). KeepsRest r (record { owned = c.self.inside.owned; members = c.push-started.new.self })) c.self.view_is
    (subst (λ ms. KeepsRest r (record { owned = c.self.inside.owned; members = ms })) (sym c.push-started.ensures.members) (start-rest r c.args.object))
