-- What a command does with the program of a source.
use Rattle.std.specs.Prelude.{◌≡◌, ◌≢◌, ℕ, Bool, true, false, List, [], ◌∷◌, ◌++◌, Option, Some, None}
use Rattle.jr_base.specs.declared.finish.Finish.TheVariants.{Memory}
use Rattle.jr_program.specs.Programs.{Program}
use Rattle.jr_program.specs.UnitViews.{program_of}
use Rattle.jr_meaning.specs.Right.{Run, IsRightRun}
use Rattle.jr_meaning.specs.Serial.{serial, IsSerialPrefix}
use Rattle.jr_built.specs.Built.{is_built}
use Rattle.jr_journal.specs.declared.journal.RunRecord.{RunRecord}
use Rattle.jr_report.specs.Listing.{check_line, listing}
use Rattle.jr_command.specs.declared.command.Command.{Command}
use Rattle.jr_command.specs.declared.command.Command.TheVariants.{RunSerial, Check, Clauses}

-- what is done with the program can be done: only some can be run yet
abbrev pub may_do : Command → Program → Bool
may_do (RunSerial seed budget) program = is_built program
may_do Check program = true
may_do Clauses program = true

-- what is written of the program, where it isn't run
abbrev pub listing_of : Command → Program → Option (List ℕ)
listing_of (RunSerial seed budget) program = None
listing_of Check program = Some (check_line program ++ 10 ∷ [])
listing_of Clauses program = Some (listing program)

-- the history of a record, and its finish
abbrev pub run_of : RunRecord → Run
run_of run = record { history = run.journal.entries; finish = run.finish }

-- The run is the one that the serial rule makes of that program, with that budget and seed; or where there was no memory to
-- go on, what that one begins with, up to whole steps with their verdicts.
pub record IsSerialRun (program : Program) (budget seed : ℕ) (run : RunRecord) : Type 0 where
  pub whole : run.finish ≢ Memory → run_of run ≡ serial program budget seed 0
  pub cut_off : run.finish ≡ Memory → IsSerialPrefix program budget seed 0 run.journal.entries

-- The command runs programs, and the record is of a run of the record's program, which can be run, as the command has it.
pub record IsRunBy (seed budget : ℕ) (run : RunRecord) : Type 0 where
  pub built : is_built (program_of run.opening.unit) ≡ true
  pub right : IsRightRun (program_of run.opening.unit) budget (run_of run)
  pub serial : IsSerialRun (program_of run.opening.unit) budget seed run
  pub within : run.opening.budget ≡ budget

abbrev pub IsRun : Command → RunRecord → Type 0
IsRun (RunSerial seed budget) run = IsRunBy seed budget run
IsRun Check run = ⊥
IsRun Clauses run = ⊥
