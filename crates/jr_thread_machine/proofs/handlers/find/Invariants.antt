use Rattle.std.proofs.Common.{List, map, drop}
use Rattle.jr_code.specs.Instructions.{Code}
use Rattle.jr_code.specs.Machine.{StackFrame, Throws, Goes}
use Rattle.jr_code.specs.Views.{region_of}
use Rattle.jr_thread_machine.specs.Frames.{frame_of}
use Rattle.jr_thread_machine.specs.Runs.{Becomes}
use Rattle.jr_thread_machine.proofs.handlers.find.Given as goal

-- the exception has gone on to the region of that number
abbrev pub invariant-loop-number : goal.invariant-loop-number
invariant-loop-number l = (code : Code) (below : List StackFrame) →
    Becomes code (Goes (Throws l.fault (drop l.from (map region_of l.regions.items)) (frame_of l.frame) below))
    (Goes (Throws l.fault (drop l.number (map region_of l.regions.items)) (frame_of l.frame) below))
