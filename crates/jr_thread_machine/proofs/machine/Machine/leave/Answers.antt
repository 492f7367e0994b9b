use Rattle.jr_code.specs.Views.{plain_of}
use Rattle.jr_thread_machine.specs.Frames.{frame_of}
use Rattle.jr_thread_machine.proofs.Turning.{leaves_at}
use Rattle.jr_thread_machine.proofs.machine.Machine.leave.Goals as goal

pub returns-clause-turned : goal.returns-clause-turned
returns-clause-turned c =
    leaves_at (plain_of c.args.code.now) c.args.self.now.stage c.args.left c.how-how.result (frame_of c.args.self.now.top) c.args.self.now.callers
    c.in_ok-monitor.monitor c.requires.leaves c.how-how.ensures c.in_ok-monitor.ensures c.requires.fits
