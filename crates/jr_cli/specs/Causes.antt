-- Why a call ends as it does.
use Rattle.std.specs.Prelude.{◌≡◌, ◌+◌, ◌<◌, ◌≤◌, ℕ, Bool, true, false, List, length, Option, Some, None, IsSome, IfSome, IsSomeAnd}
use Rattle.jr_base.specs.declared.refusal.Refusal.{Refusal}
use Rattle.jr_base.specs.declared.refusal.Refusal.TheVariants.{TooLong, NotBuilt}
use Rattle.jr_program.specs.Programs.{Program}
use Rattle.jr_program.specs.UnitViews.{program_of}
use Rattle.jr_io.specs.Faults.{Rose}
use Rattle.jr_command.specs.declared.command.Command.{Command}
use Rattle.jr_command.specs.declared.command.Command.TheVariants.{Check, Clauses}
use Rattle.jr_cli.specs.declared.outcome.Outcome.{Outcome}
use Rattle.jr_cli.specs.declared.outcome.Outcome.TheVariants.{Usage, ReadFault, Refused, OutOfMemory, Done}
use Rattle.jr_cli.specs.declared.outcome.Work.{Work}
use Rattle.jr_cli.specs.declared.outcome.Work.TheVariants.{Checked, Listed, Ran}
use Rattle.jr_cli.specs.Commands.{may_do, IsRun}
use Rattle.jr_cli.specs.Sources.{Spells, IsRefused}

-- What a call did to its source: the bytes that were left before it, where the source tells them; how many
-- bytes were taken before it and up to its end; whether the last read answered the end of input.
pub record Reading : Type 0 where
  pub left : Option (List ℕ)
  pub taken_before : ℕ
  pub taken : ℕ
  pub ended : Bool

-- more bytes were read than a source may have
abbrev pub IsTooLong : Reading → Type 0
IsTooLong reading = reading.taken_before + 1048576 < reading.taken

-- the source was read to its end, and where it tells its bytes they are such
abbrev pub ReadWhole : Reading → (List ℕ → Type 0) → Type 0
ReadWhole reading AreSuch = (reading.ended ≡ true) × IfSome reading.left AreSuch

-- the bytes spell a program that the command can't do its work on yet
pub record IsNotBuilt (command : Command) (source : List ℕ) : Type 0 where
  pub program : Program
  pub spelled : Spells source program
  pub not_built : may_do command program ≡ false

-- Why a command refuses a source with these bytes: they are refused; or they spell a program that can't be run yet.
pub data IsRefusedBy (command : Command) (bytes : List ℕ) : Refusal → Type 0 where
  for_source : {r : Refusal} → IsRefused bytes r → IsRefusedBy command bytes r
  not_built : IsNotBuilt command bytes → IsRefusedBy command bytes NotBuilt

-- Why a source is refused: it is too long; or it was read to its end, and these bytes of it are refused.
pub data Blames (command : Command) (reading : Reading) (source : List ℕ) : Refusal → Type 0 where
  too_long : IsTooLong reading → IfSome reading.left (λ bytes. 1048576 < length bytes) → reading.ended ≡ false → Blames command reading source TooLong
  refused : {r : Refusal} → ReadWhole reading (λ bytes. bytes ≡ source) → IsRefusedBy command source r → Blames command reading source r

-- the source is refused for a cause, and these bytes of it are kept for the refusal's line
pub record Refuses (command : Command) (reading : Reading) (source : List ℕ) (refusal : Refusal) : Type 0 where
  pub short : length source ≤ 1048576
  pub cause : Blames command reading source refusal

-- the source was read to its end and spells that program
abbrev pub IsOf : Reading → Program → Type 0
IsOf reading program = ReadWhole reading (λ bytes. Spells bytes program)

-- the command's work: the program is told of, or was run
abbrev pub IsWorkOf : Command → Work → Type 0
IsWorkOf command (Checked unit) = command ≡ Check
IsWorkOf command (Listed unit) = command ≡ Clauses
IsWorkOf command (Ran run) = IsRun command run

-- the program that is told of, or was run
abbrev pub program_in : Work → Program
program_in (Checked unit) = program_of unit
program_in (Listed unit) = program_of unit
program_in (Ran run) = program_of run.opening.unit

-- The words are no command; the last read failed; the source is refused; there was no memory; or it was read to its end, and
-- the command did its work on the program that it spells.
abbrev pub HasCause : Option Command → Reading → Outcome → Type 0
HasCause command reading Usage = command ≡ None
HasCause command reading ReadFault = IsSome command × (reading.ended ≡ false)
HasCause command reading (Refused refusal source) = IsSomeAnd command (λ c. Refuses c reading source.items refusal)
HasCause command reading OutOfMemory = IsSome command
HasCause command reading (Done work) = IsSomeAnd command (λ c. IsWorkOf c work) × IsOf reading (program_in work)

abbrev pub refusal_in : Outcome → Option Refusal
refusal_in (Refused refusal source) = Some refusal
refusal_in _ = None

-- each source that is too long is refused for it
abbrev pub RefusesTooLong : Reading → Outcome → Type 0
RefusesTooLong reading outcome = IsTooLong reading → refusal_in outcome ≡ Some TooLong

-- the source's count of faults rises where it could not be read, and stays where it could
abbrev pub CountsReading : ℕ → ℕ → Outcome → Type 0
CountsReading before now ReadFault = Rose before now
CountsReading before now _ = now ≡ before
