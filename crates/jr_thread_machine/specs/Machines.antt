-- A machine, as contracts see it.
use Rattle.jr_thread_machine.specs.declared.machine.Machine.{Machine}
use Rattle.jr_thread_machine.specs.Frames.{frame_of}
use Rattle.jr_thread_machine.specs.Stages.{Held}

abbrev pub held_of : Machine → Held
held_of m = record { stage = m.stage; top = frame_of m.top; below = m.callers }
