-- How a call ends: what came of it has its cause, and is what was told.
use Rattle.std.specs.Prelude.{◌≡◌, ◌==◌, ◌⊎◌, ℕ, cond, List, [], ◌∷◌, ◌++◌, Option, None, IsSomeAnd}
use Rattle.jr_io.specs.declared.sink.Piece.TheVariants.{Whole, WriteFault}
use Rattle.jr_io.specs.Writes.{WritesPiece}
use Rattle.jr_base.specs.declared.refusal.Refusal.{Refusal}
use Rattle.jr_program.specs.Programs.{Program}
use Rattle.jr_program.specs.UnitViews.{program_of}
use Rattle.jr_command.specs.declared.command.Command.{Command}
use Rattle.jr_command.specs.declared.command.Command.TheVariants.{RunSerial, Check, Clauses}
use Rattle.jr_report.specs.Refusals.{refusal_line}
use Rattle.jr_cli.specs.declared.outcome.Outcome.{Outcome}
use Rattle.jr_cli.specs.declared.ended.Ended.{Ended}
use Rattle.jr_cli.specs.Causes.{Reading, Refuses, IsOf, HasCause, RefusesTooLong, CountsReading}
use Rattle.jr_cli.specs.Commands.{listing_of}
use Rattle.jr_cli.specs.Texts.{Tells}

-- a count before and after a call
pub record Counted : Type 0 where
  pub before : ℕ
  pub now : ℕ

-- the bytes that were written before and after a call, where the sink tells them
pub record Writing : Type 0 where
  pub before : Option (List ℕ)
  pub now : Option (List ℕ)

pub record Ends (command : Option Command) (reading : Reading) (read_faults : Counted) (writing : Writing) (write_faults : Counted) (ended : Ended) : Type 0 where
  pub outcome : Outcome
  pub cause : HasCause command reading outcome
  pub too_long : RefusesTooLong reading outcome
  pub counted : CountsReading read_faults.before read_faults.now outcome
  pub told : Tells writing.before writing.now write_faults.before write_faults.now outcome ended

-- the status is that one, unless a write failed
abbrev pub IsStatus : ℕ → ℕ → Type 0
IsStatus status expected = (status ≡ expected) ⊎ (status ≡ 5)

-- the text was written: whole, or where the status is 5 up to a fault
abbrev pub IsWritten : Writing → ℕ → List ℕ → Type 0
IsWritten writing status text = WritesPiece writing.before writing.now (cond (status == 5) WriteFault Whole) text

-- nothing was run, and no source refused
pub record IsPlain (ended : Ended) (expected : ℕ) : Type 0 where
  pub status : IsStatus ended.status expected
  pub no_run : ended.run ≡ None
  pub no_refusal : ended.refusal ≡ None

-- there was no memory for the command's work to begin
abbrev pub HadNoMemory : Ended → Type 0
HadNoMemory ended = IsPlain ended 7

-- the run is one of that program
abbrev pub Runs : Ended → Program → Type 0
Runs ended program = IsSomeAnd ended.run (λ run. program_of run.opening.unit ≡ program)

-- what the command tells of that program was written
pub record Lists (command : Command) (program : Program) (writing : Writing) (ended : Ended) : Type 0 where
  pub plain : IsPlain ended 0
  pub written : IsSomeAnd (listing_of command program) (IsWritten writing ended.status)

-- the command did its work with that program
abbrev pub Does : Command → Program → Writing → Ended → Type 0
Does (RunSerial seed budget) program writing ended = Runs ended program
Does Check program writing ended = Lists Check program writing ended
Does Clauses program writing ended = Lists Clauses program writing ended

-- The source is refused for a cause, no program is run, and what was written is the refusal's line.
pub record IsRefusal (command : Command) (reading : Reading) (writing : Writing) (ended : Ended) (refusal : Refusal) : Type 0 where
  pub source : List ℕ
  pub cause : Refuses command reading source refusal
  pub status : IsStatus ended.status 3
  pub no_run : ended.run ≡ None
  pub written : IsWritten writing ended.status (refusal_line source refusal ++ 10 ∷ [])

-- the source was read to its end, and the command told of the program that it spells
pub record IsListing (command : Command) (reading : Reading) (writing : Writing) (ended : Ended) : Type 0 where
  pub program : Program
  pub source : IsOf reading program
  pub lists : Lists command program writing ended
