use Rattle.std.proofs.Common.{subst}
use Rattle.jr_code.specs.declared.code.Code.{Code as CodeOfLists}
use Rattle.jr_code.specs.Views.{plain_of}
use Rattle.jr_thread_machine.specs.declared.stage.Stage.TheVariants as stages
use Rattle.jr_thread_machine.specs.Frames.{frame_of}
use Rattle.jr_thread_machine.specs.Steps.{Stopped}
use Rattle.jr_thread_machine.specs.Stages.{held, stage_of_ran}
use Rattle.jr_thread_machine.proofs.Turning.{at_stage, same_turn}
use Rattle.jr_thread_machine.proofs.Turns.{comes_there}
use Rattle.jr_thread_machine.proofs.machine.Machine.run_on.Goals as goal

pub returns-clause-turned : goal.returns-clause-turned
returns-clause-turned c =
    let code = plain_of c.args.code.now in
    let f = frame_of c.args.self.now.top in
    let g = frame_of c.run.new.self in
    let below = c.args.self.now.callers in
    let ran = c.in_ok-ran.ran in
    at_stage code c.args.self.now.stage stages.Runs f below _ c.requires.runs
    (λ fits. same_turn code (held stages.Runs f below) (held (stage_of_ran ran) g below) _ c.come_to.ensures.stage
    (comes_there code ran f g below fits.below (subst (λ (l : CodeOfLists). Stopped (plain_of l) ran f g) c.parts.ensures.same c.in_ok-ran.ensures.ok))) c.requires.fits
