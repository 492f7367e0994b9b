use Rattle.std.proofs.Common.{◌+◌, refl, sym, subst}
use Rattle.jr_base.specs.Deed as deeds
use Rattle.jr_base.specs.declared.action.Action.TheVariants as actions
use Rattle.jr_base.specs.declared.finish.Fault.TheVariants as faults
use Rattle.jr_code.specs.Machine.{State, Makes, on, stack_frame}
use Rattle.jr_code.specs.Views.{plain_of}
use Rattle.jr_thread_machine.specs.declared.flow.Then.TheVariants as thens
use Rattle.jr_thread_machine.specs.declared.stage.Stage.TheVariants as stages
use Rattle.jr_thread_machine.specs.Frames.{frame_of}
use Rattle.jr_thread_machine.specs.Stages.{ComesTo}
use Rattle.jr_thread_machine.proofs.Replies.{legal}
use Rattle.jr_thread_machine.proofs.Resuming.{takes_monitor}
use Rattle.jr_thread_machine.proofs.frame.Frame.waits.Goals as goal

pub returns-in_default : goal.returns-in_default
returns-in_default c = λ below others.
    let code = plain_of c.args.code.now in
    let f = frame_of c.args.self.now in
    let g = stack_frame f.method f.this (f.at + 1) f.stack f.locals in
    let after = Makes (deeds.Resume c.args.object) (on below f.method f.this (f.at + 1) f.stack f.locals) in
    let P : State → Type 0 = λ s. ComesTo code s (stages.Asks (actions.Resume c.args.object) thens.Runs) g below in
    subst P (sym (legal code below f.method f.this f.at f.locals faults.IllegalMonitorStateException c.args.reply after c.in_default.not-Illegal))
    (takes_monitor code f g below others c.args.object c.requires refl)
