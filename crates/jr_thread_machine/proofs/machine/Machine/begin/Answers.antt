use Rattle.jr_thread_machine.specs.Frames.{frame_of}
use Rattle.jr_thread_machine.proofs.Turning.{begins_at}
use Rattle.jr_thread_machine.proofs.machine.Machine.begin.Goals as goal

pub returns-clause-turned : goal.returns-clause-turned
returns-clause-turned c =
    begins_at c.args.code.now c.args.self.now.stage c.called.result c.args.method c.args.this c.in-Some.callee.now c.in_ok-arguments.arguments
    (frame_of c.args.self.now.top) (frame_of c.enter.new.top) c.args.self.now.callers c.enter.new.self c.in_ok-monitor.monitor c.requires.begins c.requires.fits
    c.in-Some.ensures c.in_ok-monitor.ensures c.in_ok-arguments.ensures.ok c.in_ok-arguments.ensures.callers c.called.ensures
