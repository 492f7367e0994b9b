-- A refusal with its cause, and work with its source.
use Rattle.std.proofs.Common.{◌≡◌, ◌<◌, ◌≤◌, ℕ, false, List, [], length, Option, Some, None, IfSome, sym, subst, ap, arith}
use Rattle.jr_base.specs.declared.refusal.Refusal.{Refusal}
use Rattle.jr_base.specs.declared.refusal.Refusal.TheVariants.{TooLong}
use Rattle.jr_program.specs.Programs.{Program}
use Rattle.jr_command.specs.declared.command.Command.{Command}
use Rattle.jr_cli.specs.Causes.{Reading, too_long, refused, Refuses, ReadWhole, IsTooLong, IsOf, IsRefusedBy, HasCause, program_in}
use Rattle.jr_cli.specs.declared.outcome.Work.{Work}
use Rattle.jr_cli.specs.declared.outcome.Outcome.TheVariants.{Done}
use Rattle.jr_cli.specs.Sources.{Spells}
use Rattle.jr_cli.specs.Works.{IsWork}

pub of_length : (command : Command) (reading : Reading) (source : List ℕ) → source ≡ [] → IsTooLong reading →
    IfSome reading.left (λ bytes. 1048576 < length bytes) → reading.ended ≡ false → Refuses command reading source TooLong
of_length command reading source empty long told more = record { short = omega (arith, ap length empty); cause = too_long long told more }

pub of_bytes : (command : Command) (reading : Reading) (source : List ℕ) (r : Refusal) → length source ≤ 1048576 →
    ReadWhole reading (λ bytes. bytes ≡ source) → IsRefusedBy command source r → Refuses command reading source r
of_bytes command reading source r short whole because = record { short = short; cause = refused whole because }

-- what the bytes spell, the source does
is_of : (left : Option (List ℕ)) (source : List ℕ) (program : Program) → IfSome left (λ bytes. bytes ≡ source) → Spells source program →
    IfSome left (λ bytes. Spells bytes program)
is_of (Some bytes) source program same spells = subst (λ b. Spells b program) (sym same) spells
is_of None source program same spells = tt

pub of_work : (command : Command) (reading : Reading) (source : List ℕ) (work : Work) → ReadWhole reading (λ bytes. bytes ≡ source) →
    IsWork command source work → HasCause (Some command) reading (Done work)
of_work command reading source work whole is = (is.work_of, (whole.0, is_of reading.left source (program_in work) whole.1 is.spelled))
