use Rattle.std.proofs.Common.{sym, subst}
use Rattle.jr_base.specs.declared.action.Action.TheVariants as actions
use Rattle.jr_base.specs.declared.action.EndHow.{EndHow}
use Rattle.jr_code.specs.Views.{plain_of}
use Rattle.jr_thread_machine.specs.declared.flow.Then.TheVariants as thens
use Rattle.jr_thread_machine.specs.declared.stage.Stage.TheVariants as stages
use Rattle.jr_thread_machine.specs.Frames.{frame_of}
use Rattle.jr_thread_machine.specs.Moves.{left_to}
use Rattle.jr_thread_machine.specs.Stages.{ComesTo}
use Rattle.jr_thread_machine.proofs.Resuming.{no_caller, none_waits}
use Rattle.jr_thread_machine.proofs.answer.hand.Goals as goal

pub returns-then-not-leave : goal.returns-then-not-leave
returns-then-not-leave c =
    let none = none_waits c.leave.result _ _ c.leave.ensures c.if-not-leave.true in
    let code = plain_of c.args.code.now in
    let P : EndHow → Type 0 =
    λ how. ComesTo code (left_to code c.args.left c.args.callers.now) (stages.Asks (actions.End how) thens.Ends) (frame_of c.leave.new.top) c.leave.new.self in
    subst P (sym c.end.ensures) (no_caller code c.args.left (frame_of c.leave.new.top) c.args.callers.now c.leave.new.self none.0 none.1)
