-- What a machine has done: it stands for a thread of a program that was started so and has had these replies.
use Rattle.std.specs.Prelude.{◌++◌, Option, List}
use Rattle.jr_base.specs.Deed.{deed_of}
use Rattle.jr_base.specs.declared.action.Body.{Body}
use Rattle.jr_base.specs.declared.action.Reply.{Reply}
use Rattle.jr_base.specs.Threads as threads
use Rattle.jr_program.specs.Programs.{Program}
use Rattle.jr_program.specs.WellFormed.{StartFits}
use Rattle.jr_code.specs.Instructions.{Code}
use Rattle.jr_code.specs.Machine.{State, Move, start_state, DoesNext}
use Rattle.jr_lowering.specs.ProgramCode.{code_of}
use Rattle.jr_thread_machine.specs.declared.machine.Machine.{Machine}
use Rattle.jr_thread_machine.specs.declared.machine.Next.{Next}
use Rattle.jr_thread_machine.specs.declared.machine.Next.TheVariants.{Does, Ended}
use Rattle.jr_thread_machine.specs.Machines.{held_of}
use Rattle.jr_thread_machine.specs.Runs.{Follows}
use Rattle.jr_thread_machine.specs.Stages.{move_of, HeldFits}

-- what comes of the move after more replies, comes of the start after both
pub record MovesAfter (code : Code) (start : State) (replies : List Reply) (m : Move) : Type 0 where
  pub same : (more : List Reply) (what : threads.Next) → Follows code m more what → DoesNext code start (replies ++ more) what

-- the machine runs a thread of the program, which was started so and has had these replies
pub record StandsFor (program : Program) (start : Option Body) (replies : List Reply) (m : Machine) : Type 0 where
  pub fits : StartFits program start
  pub after : MovesAfter (code_of program) (start_state (code_of program) start) replies (move_of (code_of program) (held_of m))
  pub held : HeldFits (code_of program) (held_of m)

-- it runs some thread of the program
pub record RunsThreadOf (program : Program) (m : Machine) : Type 0 where
  pub start : Option Body
  pub replies : List Reply
  pub stands : StandsFor program start replies m

-- what the machine answers, as the definition has it
abbrev pub next_of : Next → threads.Next
next_of (Does action) = threads.Wants (deed_of action)
next_of Ended = threads.Ended
