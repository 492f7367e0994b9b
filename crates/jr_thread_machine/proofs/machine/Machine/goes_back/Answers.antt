use Rattle.std.proofs.Common.{sym, subst}
use Rattle.jr_base.specs.declared.action.Action.TheVariants as actions
use Rattle.jr_code.specs.declared.code.Code.{Code as CodeOfLists}
use Rattle.jr_code.specs.Views.{plain_of}
use Rattle.jr_thread_machine.specs.declared.flow.Stop.TheVariants as stops
use Rattle.jr_thread_machine.specs.declared.flow.Then.TheVariants as thens
use Rattle.jr_thread_machine.specs.declared.handlers.Ran.TheVariants as rans
use Rattle.jr_thread_machine.specs.declared.stage.Stage.{Stage}
use Rattle.jr_thread_machine.specs.declared.stage.Stage.TheVariants as stages
use Rattle.jr_thread_machine.specs.Frames.{frame_of}
use Rattle.jr_thread_machine.specs.Steps.{Stays, Stopped}
use Rattle.jr_thread_machine.specs.Stages.{held, HeldFits, HasTurned}
use Rattle.jr_thread_machine.proofs.Halting.{it_holds, it_fails}
use Rattle.jr_thread_machine.proofs.Turning.{at_stage}
use Rattle.jr_thread_machine.proofs.Turns.{comes_there, still_runs}
use Rattle.jr_thread_machine.proofs.machine.Machine.goes_back.Goals as goal

pub returns-then-goes_back-clause-turned : goal.returns-then-goes_back-clause-turned
returns-then-goes_back-clause-turned c =
    let code = plain_of c.args.code.now in
    let f = frame_of c.args.self.now.top in
    let g = frame_of c.goes_back.new.self in
    let below = c.args.self.now.callers in
    let back = rans.Stops (stops.Asks actions.Back thens.Runs) in
    let stopped = it_holds c.goes_back.result _ _ c.goes_back.ensures c.if-goes_back.true in
    at_stage code c.args.self.now.stage stages.Runs f below (held (stages.Asks actions.Back thens.Runs) g below) c.requires.runs
    (λ fits. comes_there code back f g below fits.below (subst (λ (l : CodeOfLists). Stopped (plain_of l) back f g) c.parts.ensures.same stopped)) c.requires.fits

pub returns-clause-turned : goal.returns-clause-turned
returns-clause-turned c =
    let code = plain_of c.args.code.now in
    let f = frame_of c.args.self.now.top in
    let g = frame_of c.goes_back.new.self in
    let below = c.args.self.now.callers in
    let went = it_fails c.goes_back.result _ _ c.goes_back.ensures c.if-goes_back.false in
    let P : Stage → Type 0 = λ s. HeldFits code (held s f below) → HasTurned code (held s f below) (held s g below) in
    subst P (sym c.requires.runs)
    (λ fits. still_runs code f g below fits.below (subst (λ (l : CodeOfLists). Stays (plain_of l) f g) c.parts.ensures.same went)) c.requires.fits
