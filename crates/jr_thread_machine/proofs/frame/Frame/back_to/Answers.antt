use Rattle.std.proofs.Common.{sym}
use Rattle.jr_base.specs.declared.action.Action.TheVariants as actions
use Rattle.jr_code.specs.Instructions.{BackTo}
use Rattle.jr_thread_machine.specs.declared.flow.Flow.TheVariants as flows
use Rattle.jr_thread_machine.specs.declared.flow.Stop.TheVariants as stops
use Rattle.jr_thread_machine.specs.declared.flow.Then.TheVariants as thens
use Rattle.jr_thread_machine.specs.Frames.{frame_of}
use Rattle.jr_thread_machine.proofs.Tables.{as_flow}
use Rattle.jr_thread_machine.proofs.frame.Frame.back_to.Goals as goal

pub returns : goal.returns
returns c = λ plain.
    as_flow plain (BackTo c.args.to) (flows.Stops (stops.Asks actions.Back thens.Runs)) c.asks.result (frame_of c.args.self.now) (frame_of c.jump_back.new.self)
    (sym c.asks.ensures) (c.jump_back.ensures plain)
