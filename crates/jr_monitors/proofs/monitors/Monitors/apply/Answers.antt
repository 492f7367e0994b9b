use Rattle.std.proofs.Common.{◌∙◌}
use Rattle.jr_base.specs.Deed.{deed_of}
use Rattle.jr_meaning.specs.Machine.{after}
use Rattle.jr_monitors.specs.Roster.{world_of}
use Rattle.jr_monitors.specs.Stands.{completed}
use Rattle.jr_monitors.proofs.Steps.{fits-same}
use Rattle.jr_monitors.proofs.Worlds.{agree-then, answers-same, after-same, live-same, ready-same}
use Rattle.jr_monitors.proofs.Objects.{objects-stay}
use Rattle.jr_monitors.proofs.monitors.Monitors.apply.Goals as goal

pub step-requires-clause-live : goal.step-requires-clause-live
step-requires-clause-live c = live-same (world_of c.park_at.new.self) (world_of c.args.self.now) c.park_at.ensures.world c.args.guest ∙ c.requires.live

pub step-requires-clause-ready : goal.step-requires-clause-ready
step-requires-clause-ready c = ready-same (world_of c.park_at.new.self) (world_of c.args.self.now) c.park_at.ensures.world c.args.guest (deed_of c.args.action.now) ∙ c.requires.ready

pub step-requires-clause-fits : goal.step-requires-clause-fits
step-requires-clause-fits c = fits-same c.park_at.new.self c.args.self.now c.park_at.ensures.owned c.park_at.ensures.world c.args.guest (deed_of c.args.action.now) c.requires.fits

pub returns-clause-answer : goal.returns-clause-answer
returns-clause-answer c = λ program world stands.
    answers-same program (world_of c.park_at.new.self) world (agree-then _ (world_of c.args.self.now) _ c.park_at.ensures.world stands.agrees) c.args.guest (deed_of c.args.action.now) c.step.result (c.step.ensures.answer program)

pub returns-clause-after : goal.returns-clause-after
returns-clause-after c = λ program world stands enters.
    let agree = agree-then (world_of c.park_at.new.self) (world_of c.args.self.now) world c.park_at.ensures.world stands.agrees in
    record {
      agrees = agree-then (world_of c.step.new.self) (after program (world_of c.park_at.new.self) c.args.guest (deed_of c.args.action.now) c.step.result)
          (after program world c.args.guest (deed_of c.args.action.now) (completed program world (deed_of c.args.action.now) c.step.result))
          (c.step.ensures.after program) (after-same (world_of c.park_at.new.self) world agree program c.args.guest (deed_of c.args.action.now) c.step.result);
      objects = objects-stay program world c.args.guest (deed_of c.args.action.now) (completed program world (deed_of c.args.action.now) c.step.result) stands.objects enters;
    }
