use Rattle.std.proofs.Common.{sym, ◌∙◌, ap, subst}
use Rattle.jr_program.specs.Programs.{numbered}
use Rattle.jr_monitors.specs.Roster.{Roster, AreApart}
use Rattle.jr_monitors.proofs.Seen.{no-waits, waits-seen}
use Rattle.jr_monitors.proofs.Stuck.{waiter-owns-nothing}
use Rattle.jr_monitors.proofs.monitors.Monitors.waits.Goals as goal

pub returns-in-Some-clause-waits : goal.returns-in-Some-clause-waits
returns-in-Some-clause-waits c = λ world stands.
    c.waits.ensures
    ∙ waits-seen c.args.self.now world stands c.args.guest c.in-Some.member
    (sym (ap (λ (r : Roster). numbered r.members c.args.guest.0) c.self.view_is) ∙ (sym c.get.ensures.member ∙ c.in-Some.is))

pub returns-in-None-clause-waits : goal.returns-in-None-clause-waits
returns-in-None-clause-waits c = λ world stands.
    no-waits c.args.self.now world stands c.args.guest
    (sym (ap (λ (r : Roster). numbered r.members c.args.guest.0) c.self.view_is) ∙ (sym c.get.ensures.member ∙ c.in-None.is))

pub returns-in-Some-clause-owns_nothing : goal.returns-in-Some-clause-owns_nothing
returns-in-Some-clause-owns_nothing c =
    waiter-owns-nothing c.args.self.now (subst (λ (r : Roster). AreApart r.owned.owners r.members) c.self.view_is c.self.invariant) c.args.guest c.in-Some.member
    (sym (ap (λ (r : Roster). numbered r.members c.args.guest.0) c.self.view_is) ∙ (sym c.get.ensures.member ∙ c.in-Some.is)) c.waits.result c.waits.ensures
