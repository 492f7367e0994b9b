use Rattle.std.proofs.Common.{◌≡◌, true, sym, ◌∙◌, subst}
use Rattle.jr_meaning.specs.Machine.{may_join}
use Rattle.jr_monitors.specs.Roster.{Roster, world_of}
use Rattle.jr_monitors.proofs.Steps.{join-found}
use Rattle.jr_monitors.proofs.monitors.Monitors.may_join.Goals as goal

pub returns-in-Some : goal.returns-in-Some
returns-in-Some c =
    let r : Roster = record { owned = c.self.inside.owned; members = c.self.inside.members } in
    subst (λ (r : Roster). c.in-Some.member.ended ≡ may_join (world_of r) c.args.object) c.self.view_is
    (sym (join-found r c.args.object _ (sym c.in-Some.is ∙ c.run_of.ensures)))

pub returns-in-None : goal.returns-in-None
returns-in-None c =
    let r : Roster = record { owned = c.self.inside.owned; members = c.self.inside.members } in
    subst (λ (r : Roster). true ≡ may_join (world_of r) c.args.object) c.self.view_is
    (sym (join-found r c.args.object _ (sym c.in-None.is ∙ c.run_of.ensures)))
