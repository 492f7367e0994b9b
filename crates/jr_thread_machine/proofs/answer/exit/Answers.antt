use Rattle.std.proofs.Common.{Option, sym, subst}
use Rattle.jr_base.specs.declared.number.ObjId.{ObjId}
use Rattle.jr_base.specs.declared.action.Action.TheVariants as actions
use Rattle.jr_code.specs.Machine.{exit_then}
use Rattle.jr_code.specs.Views.{plain_of}
use Rattle.jr_thread_machine.specs.declared.flow.Then.TheVariants as thens
use Rattle.jr_thread_machine.specs.declared.stage.Stage.TheVariants as stages
use Rattle.jr_thread_machine.specs.Frames.{frame_of}
use Rattle.jr_thread_machine.specs.Moves.{left_to}
use Rattle.jr_thread_machine.specs.Stages.{ComesTo}
use Rattle.jr_thread_machine.proofs.Resuming.{exits_next}
use Rattle.jr_thread_machine.proofs.answer.exit.Goals as goal

pub returns-in-Some : goal.returns-in-Some
returns-in-Some c =
    let code = plain_of c.args.code.now in
    let f = frame_of c.args.top.now in
    let left = c.args.left in
    let P : Option ObjId → Type 0 =
    λ m. ComesTo code (exit_then m (left_to code left c.args.callers.now)) (stages.Asks (actions.Exit c.in-Some.object) (thens.Hands left)) f c.args.callers.now in
    subst P (sym c.in-Some.is) (exits_next code c.in-Some.object left f c.args.callers.now c.requires)
