use Rattle.std.proofs.Common.{sym, ap, ◌∙◌}
use Rattle.jr_base.specs.Deed.{deed_of, Join}
use Rattle.jr_meaning.specs.Machine.{is_ready}
use Rattle.jr_monitors.specs.Roster.{world_of}
use Rattle.jr_monitors.proofs.Worlds.{ready-same}
use Rattle.jr_monitors.proofs.monitors.Monitors.ready.Goals as goal

pub returns-in-Join-clause-ready : goal.returns-in-Join-clause-ready
returns-in-Join-clause-ready c = λ world stands.
    c.may_join.ensures
    ∙ (ready-same (world_of c.args.self.now) world stands.agrees c.args.guest (Join c.in-Join.object)
    ∙ sym (ap (λ a. is_ready world c.args.guest (deed_of a)) c.in-Join.is))
