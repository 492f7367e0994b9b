use Rattle.std.proofs.Common.{◌≡◌, ◌&&◌, Bool, true, false, not, is_some, refl, sym, ◌∙◌, ap}
use Rattle.jr_meaning.specs.Machine.{is_waiting}
use Rattle.jr_monitors.specs.Roster.{Roster, hold_by, kept_in, owner_in, waiters_from}
use Rattle.jr_monitors.proofs.monitors.Monitors.may_resume.Goals as goal

and_true : (b : Bool) → b ≡ (b && true)
and_true true = refl
and_true false = refl

pub returns-in-None : goal.returns-in-None
returns-in-None c =
    let keeps = is_some (kept_in c.args.self.now.members c.args.object c.args.guest) in
    let out = not (is_waiting c.args.guest (waiters_from 1 c.args.object c.args.self.now.members)) in
    c.was_woken.ensures
    ∙ (and_true (keeps && out)
    ∙ ap (λ o. keeps && out && not (is_some (hold_by o))) (sym c.in-None.is ∙ (c.owner.ensures ∙ ap (λ (r : Roster). owner_in r.owned.owners c.args.object) c.self.view_is)))
