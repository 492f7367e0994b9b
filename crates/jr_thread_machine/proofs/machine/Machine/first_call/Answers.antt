use Rattle.jr_thread_machine.specs.Frames.{frame_of}
use Rattle.jr_thread_machine.proofs.Turning.{starts_at}
use Rattle.jr_thread_machine.proofs.machine.Machine.first_call.Goals as goal

pub returns : goal.returns
returns c =
    starts_at c.args.code.now c.called-stage.result c.args.method c.args.this c.in-Some.callee.now c.in_ok-arguments.arguments c.new.result.items
    (frame_of c.begin-2.new.self) c.new-callers.result c.in_ok-monitor.field-0 c.in-Some.ensures c.in_ok-monitor.ensures c.new.ensures
    c.in_ok-arguments.ensures.begun c.new-callers.ensures c.called-stage.ensures
