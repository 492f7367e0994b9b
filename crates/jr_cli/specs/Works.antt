-- What a command makes of the bytes of a source.
use Rattle.std.specs.Prelude.{◌≡◌, ℕ, false, List, Result, Ok, Err}
use Rattle.jr_base.specs.declared.refusal.Fail.{Fail}
use Rattle.jr_base.specs.declared.refusal.Fail.TheVariants.{Refused as Refuses, Memory}
use Rattle.jr_base.specs.declared.refusal.Refusal.TheVariants.{NotBuilt}
use Rattle.jr_program.specs.Programs.{Program}
use Rattle.jr_program.specs.UnitViews.{program_of}
use Rattle.jr_built.specs.Built.{is_built}
use Rattle.jr_journal.specs.declared.journal.RunRecord.{RunRecord}
use Rattle.jr_command.specs.declared.command.Command.{Command}
use Rattle.jr_cli.specs.declared.outcome.Work.{Work}
use Rattle.jr_cli.specs.Causes.{IsRefusedBy, IsWorkOf, program_in}
use Rattle.jr_cli.specs.Commands.{IsRunBy}
use Rattle.jr_cli.specs.Sources.{Spells}

-- the command's work on the program that the bytes spell
pub record IsWork (command : Command) (bytes : List ℕ) (work : Work) : Type 0 where
  pub work_of : IsWorkOf command work
  pub spelled : Spells bytes (program_in work)

-- that work, or why the source is refused
abbrev pub WorksOn : Command → List ℕ → Result Work Fail → Type 0
WorksOn command bytes (Ok work) = IsWork command bytes work
WorksOn command bytes (Err (Refuses refusal)) = IsRefusedBy command bytes refusal
WorksOn command bytes (Err Memory) = Unit {0}

-- a run of that program, with that budget, whatever the seed
pub record RunsProgram (program : Program) (budget : ℕ) (run : RunRecord) : Type 0 where
  pub by_seed : (seed : ℕ) → IsRunBy seed budget run
  pub same : program_of run.opening.unit ≡ program

-- such a run, or that the program can't be run yet
abbrev pub RunsOrRefuses : Program → ℕ → Result RunRecord Fail → Type 0
RunsOrRefuses program budget (Ok run) = RunsProgram program budget run
RunsOrRefuses program budget (Err (Refuses refusal)) = (refusal ≡ NotBuilt) × (is_built program ≡ false)
RunsOrRefuses program budget (Err Memory) = Unit {0}
