use Rattle.std.proofs.Common.{cond, ◌∙◌, ap}
use Rattle.jr_base.specs.Deed.{deed_of}
use Rattle.jr_meaning.specs.World.{same_guest}
use Rattle.jr_monitors.specs.Roster.{parked_of, world_of}
use Rattle.jr_monitors.proofs.Seen.{parks-whole}
use Rattle.jr_monitors.proofs.monitors.Monitors.park.Goals as goal

pub returns-clause-parked : goal.returns-clause-parked
returns-clause-parked c = λ other.
    c.park_at.ensures.parked other
    ∙ ap (λ d. cond (same_guest other c.args.guest) d (parked_of c.args.self.now other)) (c.at.ensures ∙ parks-whole (world_of c.args.self.now) c.args.guest (deed_of c.args.action.now) c.requires.blocked)
