-- What has its cause can be told.
use Rattle.std.proofs.Common.{ℕ, ◌≡◌, sym, subst, Option, Some, None}
use Rattle.jr_program.specs.UnitViews.{program_of}
use Rattle.jr_meaning.specs.Right.{IsRightRun}
use Rattle.jr_journal.specs.declared.journal.RunRecord.{RunRecord}
use Rattle.jr_command.specs.declared.command.Command.{Command}
use Rattle.jr_command.specs.declared.command.Command.TheVariants.{RunSerial, Check, Clauses}
use Rattle.jr_cli.specs.declared.outcome.Outcome.{Outcome}
use Rattle.jr_cli.specs.declared.outcome.Outcome.TheVariants.{Usage, ReadFault, Refused, OutOfMemory, Done}
use Rattle.jr_cli.specs.declared.outcome.Work.{Work}
use Rattle.jr_cli.specs.declared.outcome.Work.TheVariants.{Checked, Listed, Ran}
use Rattle.jr_cli.specs.Causes.{Reading, HasCause, IsWorkOf}
use Rattle.jr_cli.specs.Commands.{run_of, IsRun, IsRunBy}
use Rattle.jr_cli.specs.Texts.{IsTellable, IsTellableWork}

-- a run is right for its own budget
own_budget : (seed budget : ℕ) (run : RunRecord) → IsRunBy seed budget run → IsRightRun (program_of run.opening.unit) run.opening.budget (run_of run)
own_budget seed budget run is = subst (λ b. IsRightRun (program_of run.opening.unit) b (run_of run)) (sym is.within) is.right

of_command : (command : Command) (run : RunRecord) → IsRun command run → IsRightRun (program_of run.opening.unit) run.opening.budget (run_of run)
of_command (RunSerial seed budget) run is = own_budget seed budget run is
of_command Check run is = absurd is
of_command Clauses run is = absurd is

work_tellable : (command : Command) (work : Work) → IsWorkOf command work → IsTellableWork work
work_tellable command (Checked unit) is = tt
work_tellable command (Listed unit) is = tt
work_tellable command (Ran run) is = of_command command run is

pub cause_tellable : (command : Option Command) (reading : Reading) (outcome : Outcome) → HasCause command reading outcome → IsTellable outcome
cause_tellable command reading Usage cause = tt
cause_tellable command reading ReadFault cause = tt
cause_tellable command reading OutOfMemory cause = tt
cause_tellable None reading (Refused refusal source) cause = absurd cause
cause_tellable (Some c) reading (Refused refusal source) cause = cause.short
cause_tellable None reading (Done work) cause = absurd cause.0
cause_tellable (Some c) reading (Done work) cause = work_tellable c work cause.0
