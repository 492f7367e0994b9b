use Rattle.std.proofs.Common.{sym, ◌∙◌, ap}
use Rattle.jr_program.specs.Programs.{numbered}
use Rattle.jr_monitors.specs.Roster.{Roster}
use Rattle.jr_monitors.proofs.Seen.{no-timed, timed-seen}
use Rattle.jr_monitors.proofs.monitors.Monitors.timed.Goals as goal

pub returns-in-Some : goal.returns-in-Some
returns-in-Some c = λ world stands.
    c.is_timed.ensures
    ∙ timed-seen c.args.self.now world stands c.args.guest c.in-Some.member
    (sym (ap (λ (r : Roster). numbered r.members c.args.guest.0) c.self.view_is) ∙ (sym c.get.ensures.member ∙ c.in-Some.is))

pub returns-in-None : goal.returns-in-None
returns-in-None c = λ world stands.
    no-timed c.args.self.now world stands c.args.guest
    (sym (ap (λ (r : Roster). numbered r.members c.args.guest.0) c.self.view_is) ∙ (sym c.get.ensures.member ∙ c.in-None.is))
