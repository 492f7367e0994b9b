-- What a command makes of a source.
use Rattle.std.proofs.Common.{◌≡◌, ◌≢◌, ℕ, true, false, List, Result, Ok, Err, IsErrAnd, refl, sym, subst}
use Rattle.jr_base.specs.declared.finish.Finish.{Finish}
use Rattle.jr_base.specs.declared.finish.Finish.TheVariants.{Finished, Deadlock, Budget, Limit, Memory}
use Rattle.jr_base.specs.declared.refusal.Refusal.{Refusal}
use Rattle.jr_base.specs.declared.refusal.Refusal.TheVariants.{NotBuilt}
use Rattle.jr_base.specs.declared.refusal.Fail.{Fail}
use Rattle.jr_base.specs.declared.refusal.Fail.TheVariants.{Refused, Memory as NoMemory}
use Rattle.jr_program.specs.Programs.{Program}
use Rattle.jr_program.specs.UnitViews.{program_of}
use Rattle.jr_program.specs.declared.parts.UnitParts.{UnitParts}
use Rattle.jr_meaning.specs.Event.{Event}
use Rattle.jr_meaning.specs.Right.{Run, IsRightRun}
use Rattle.jr_meaning.specs.Serial.{serial, IsSerialPrefix}
use Rattle.jr_built.specs.Built.{is_built}
use Rattle.jr_journal.specs.declared.journal.RunRecord.{RunRecord}
use Rattle.jr_command.specs.declared.command.Command.{Command}
use Rattle.jr_command.specs.declared.command.Command.TheVariants.{RunSerial, Check, Clauses}
use Rattle.jr_cli.specs.Causes.{IsRefusedBy, for_source, not_built, IsNotBuilt}
use Rattle.jr_cli.specs.Commands.{run_of, IsRunBy}
use Rattle.jr_cli.specs.Sources.{Spells, Reads}
use Rattle.jr_cli.specs.declared.outcome.Work.{Work}
use Rattle.jr_cli.specs.declared.outcome.Work.TheVariants.{Ran}
use Rattle.jr_cli.specs.Works.{IsWork, WorksOn, RunsProgram, RunsOrRefuses}

-- ---- runs

-- what the serial rule makes is right
abbrev pub Serial : Type 0
Serial = (program : Program) (budget seed spurious : ℕ) → IsRightRun program budget (serial program budget seed spurious)

-- and what it has made where it is cut off
abbrev pub CutOff : Type 0
CutOff = (program : Program) (budget seed spurious : ℕ) (h : List Event) → IsSerialPrefix program budget seed spurious h →
    IsRightRun program budget (record { history = h; finish = Memory })

right_of : Serial → CutOff → (program : Program) (budget : ℕ) (h : List Event) (finish : Finish) →
    (finish ≢ Memory → ◌≡◌ {A = Run} (record { history = h; finish = finish }) (serial program budget 0 0)) →
    (finish ≡ Memory → IsSerialPrefix program budget 0 0 h) → IsRightRun program budget (record { history = h; finish = finish })
right_of serials prefixes program budget h Memory whole cut = prefixes program budget 0 0 h (cut refl)
right_of serials prefixes program budget h Finished whole cut =
    subst (λ r. IsRightRun program budget r) (sym (whole (λ e. absurd cc))) (serials program budget 0 0)
right_of serials prefixes program budget h Deadlock whole cut =
    subst (λ r. IsRightRun program budget r) (sym (whole (λ e. absurd cc))) (serials program budget 0 0)
right_of serials prefixes program budget h (Budget n) whole cut =
    subst (λ r. IsRightRun program budget r) (sym (whole (λ e. absurd cc))) (serials program budget 0 0)
right_of serials prefixes program budget h (Limit kind g count) whole cut =
    subst (λ r. IsRightRun program budget r) (sym (whole (λ e. absurd cc))) (serials program budget 0 0)

pub has_run : Serial → CutOff → (unit : UnitParts) (budget : ℕ) (run : RunRecord) → is_built (program_of unit) ≡ true → run.opening.unit ≡ unit →
    run.opening.budget ≡ budget →
    (run.finish ≢ Memory → (seed : ℕ) → ◌≡◌ {A = Run} (record { history = run.journal.entries; finish = run.finish }) (serial (program_of unit) budget seed 0)) →
    (run.finish ≡ Memory → (seed : ℕ) → IsSerialPrefix (program_of unit) budget seed 0 run.journal.entries) →
    RunsOrRefuses (program_of unit) budget (Ok run)
has_run serials prefixes unit budget run built same budget_same whole cut =
    record {
      by_seed = λ seed. record {
        built = subst (λ u. is_built (program_of u) ≡ true) (sym same) built;
        right = subst (λ u. IsRightRun (program_of u) budget (run_of run)) (sym same)
            (right_of serials prefixes (program_of unit) budget run.journal.entries run.finish (λ e. whole e 0) (λ e. cut e 0));
        serial = record {
          whole = λ e. subst (λ u. run_of run ≡ serial (program_of u) budget seed 0) (sym same) (whole e seed);
          cut_off = λ e. subst (λ u. IsSerialPrefix (program_of u) budget seed 0 run.journal.entries) (sym same) (cut e seed);
        };
        within = budget_same;
      };
      same = subst (λ u. program_of u ≡ program_of unit) (sym same) refl;
    }

-- ---- commands

pub refused_source : (command : Command) (bytes : List ℕ) (e : Fail) → Reads bytes (Err e) → WorksOn command bytes (Err e)
refused_source command bytes (Refused r) cause = for_source cause
refused_source command bytes NoMemory cause = tt

pub refused_run : (seed budget : ℕ) (bytes : List ℕ) (unit : UnitParts) (e : Fail) → Spells bytes (program_of unit) →
    RunsOrRefuses (program_of unit) budget (Err e) → WorksOn (RunSerial seed budget) bytes (Err e)
refused_run seed budget bytes unit NoMemory spells cause = tt
refused_run seed budget bytes unit (Refused r) spells cause =
    subst (λ r. IsRefusedBy (RunSerial seed budget) bytes r) (sym cause.0)
    (not_built (record { program = program_of unit; spelled = spells; not_built = cause.1 }))

-- a failure that is handed on
pub handed_on : (command : Command) (bytes : List ℕ) (result : Result Work Fail) (f : Fail) → IsErrAnd result (λ e. e ≡ f) →
    WorksOn command bytes (Err f) → WorksOn command bytes result
handed_on command bytes (Err e) f same cause = subst (λ x. WorksOn command bytes (Err x)) (sym same) cause
handed_on command bytes (Ok work) f same cause = absurd same

pub has_worked : (seed budget : ℕ) (bytes : List ℕ) (unit : UnitParts) (run : RunRecord) → Spells bytes (program_of unit) →
    RunsOrRefuses (program_of unit) budget (Ok run) → IsWork (RunSerial seed budget) bytes (Ran run)
has_worked seed budget bytes unit run spells runs = record {
  work_of = runs.by_seed seed;
  spelled = subst (λ p. Spells bytes p) (sym runs.same) spells;
}
