use Rattle.jr_code.specs.Views.{plain_of}
use Rattle.jr_thread_machine.specs.Frames.{frame_of}
use Rattle.jr_thread_machine.proofs.Turning.{ends_at_once}
use Rattle.jr_thread_machine.proofs.machine.Machine.start.Goals as goal

pub returns-in-None : goal.returns-in-None
returns-in-None c =
    ends_at_once (plain_of c.args.code.now) c.args.start (frame_of c.new.result) c.new-in-None.result c.in-None.is c.new-in-None.ensures
