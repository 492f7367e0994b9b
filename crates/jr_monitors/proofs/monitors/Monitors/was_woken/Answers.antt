use Rattle.std.proofs.Common.{◌≡◌, ◌&&◌, not, is_some, sym, ◌∙◌, subst}
use Rattle.jr_meaning.specs.Machine.{is_waiting}
use Rattle.jr_monitors.specs.Roster.{Roster, kept_in, waiters_from}
use Rattle.jr_monitors.proofs.Notices.{was-woken}
use Rattle.jr_monitors.proofs.monitors.Monitors.was_woken.Goals as goal

pub returns-in-Some : goal.returns-in-Some
returns-in-Some c =
    let r : Roster = record { owned = c.self.inside.owned; members = c.self.inside.members } in
    subst (λ (r : Roster). c.is_woken_on.result ≡ (is_some (kept_in r.members c.args.object c.args.guest) && not (is_waiting c.args.guest (waiters_from 1 c.args.object r.members)))) c.self.view_is
    (c.is_woken_on.ensures ∙ was-woken r c.args.guest c.in-Some.member (sym c.get.ensures.member ∙ c.in-Some.is) c.args.object)
