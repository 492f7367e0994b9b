use Rattle.std.proofs.Common.{◌-◌, length}
use Rattle.jr_code.specs.Views.{plain_of}
use Rattle.jr_thread_machine.specs.Frames.{frame_of}
use Rattle.jr_thread_machine.specs.Steps.{Stays}
use Rattle.jr_thread_machine.proofs.frame.Frame.run.Given as goal

-- the call has come from where it was
abbrev pub invariant-loop-instruction : goal.invariant-loop-instruction
invariant-loop-instruction l = Stays (plain_of l.code) (frame_of l.initial.self) (frame_of l.self)

abbrev pub decreases-loop-instruction : goal.decreases-loop-instruction
decreases-loop-instruction l = length l.method.instrs.items - l.self.at
