-- A thread that keeps a state of its code stops where the program does.
use Rattle.std.proofs.Common.{◌≡◌, Option}
use Rattle.jr_base.specs.Deed.{Deed}
use Rattle.jr_base.specs.Threads.{Wants, Ended, Tape}
use Rattle.jr_base.specs.declared.action.Body.{Body}
use Rattle.jr_program.specs.Programs.{Program}
use Rattle.jr_program.specs.WellFormed.{WellFormed, StartFits}
use Rattle.jr_meaning.specs.Next.{next}
use Rattle.jr_code.specs.Machine.{State, step, start_state}
use Rattle.jr_code.specs.Resumed.{After, IsAsking, IsEnding}
use Rattle.jr_code.proofs.Stopping.{asks_next, ends_next}
use Rattle.jr_code.proofs.Unique.{unique}
use Rattle.jr_lowering.specs.ProgramCode.{code_of}
use Rattle.jr_lowering.proofs.Whole.{lowered}

module _ (program : Program) (formed : WellFormed program) (start : Option Body) (fits : StartFits program start) (replies : Tape) (s : State) where
  pub asks_as_the_program : (deed : Deed) → After (code_of program) (start_state (code_of program) start) replies s → IsAsking deed (step (code_of program) s) → next program start replies ≡ Wants deed
  asks_as_the_program deed after asking =
      let code = code_of program in
      unique code (start_state code start) replies _ _ (lowered program formed start replies fits) (asks_next code (start_state code start) s replies deed after asking)

  pub ends_as_the_program : After (code_of program) (start_state (code_of program) start) replies s → IsEnding (step (code_of program) s) → next program start replies ≡ Ended
  ends_as_the_program after ending =
      let code = code_of program in
      unique code (start_state code start) replies _ _ (lowered program formed start replies fits) (ends_next code (start_state code start) s replies after ending)
