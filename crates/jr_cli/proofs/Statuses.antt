-- What follows from how a call ended, clause by clause.
use Rattle.std.proofs.Common.{◌≡◌, ◌≢◌, suc, zero, ◌==◌, ◌+◌, ◌<◌, ◌⊎◌, ◌||◌, ◌&&◌, ℕ, Bool, true, false, cond, List, Option, Some, None, IsSome, IfSome, IsSomeAnd, refl, sym, ap, subst, ◌∙◌, inl, inr, sum_by}
use Rattle.jr_base.specs.declared.finish.Finish.{Finish}
use Rattle.jr_base.specs.declared.finish.Finish.TheVariants.{Finished, Deadlock, Budget, Limit, Memory}
use Rattle.jr_base.specs.declared.refusal.Refusal.{Refusal}
use Rattle.jr_base.specs.declared.refusal.Refusal.TheVariants.{TooLong}
use Rattle.jr_io.specs.Faults.{Rose}
use Rattle.jr_io.specs.declared.sink.Piece.{Piece}
use Rattle.jr_io.specs.declared.sink.Piece.TheVariants.{Whole, WriteFault}
use Rattle.jr_io.specs.Writes.{CountsPieceFault}
use Rattle.jr_program.specs.Programs.{Program}
use Rattle.jr_program.specs.UnitViews.{program_of}
use Rattle.jr_meaning.specs.Event.{Event}
use Rattle.jr_journal.specs.declared.journal.RunRecord.{RunRecord}
use Rattle.jr_report.specs.Report.{violations_in, uncaught_in}
use Rattle.jr_command.specs.declared.command.Command.{Command}
use Rattle.jr_cli.specs.declared.outcome.Outcome.{Outcome}
use Rattle.jr_cli.specs.declared.outcome.Outcome.TheVariants.{Usage, ReadFault, Refused, OutOfMemory, Done}
use Rattle.jr_cli.specs.declared.outcome.Work.{Work}
use Rattle.jr_cli.specs.declared.outcome.Work.TheVariants.{Checked, Listed, Ran}
use Rattle.jr_cli.specs.declared.ended.Ended.{Ended}
use Rattle.jr_cli.specs.Causes.{Reading, IsOf, HasCause, CountsReading, IsTooLong, refusal_in}
use Rattle.jr_cli.specs.Commands.{IsRun}
use Rattle.jr_cli.specs.Texts.{report_text, run_status, status_of, status_told, run_in, Tells}
use Rattle.jr_cli.specs.Ends.{Counted, Writing, Ends, IsStatus, IsWritten, IsPlain, HadNoMemory}
use Rattle.jr_cli.specs.Sources.{Spells}
use Rattle.jr_cli.proofs.Endings.{no_command, is_status, written, plain, spelled}

-- ---- statuses

false_true : false ≡ true → ⊥
false_true e = absurd cc

-- the statuses that a run may have
abbrev of_run : ℕ → Bool
of_run n = (n == 0) || ((n == 1) || ((n == 6) || ((n == 7) || ((n == 8) || (n == 9)))))

finished_status : (b : Bool) (n : ℕ) → ◌≡◌ {A = ℕ} (cond b 0 1) n → of_run n ≡ true
finished_status true n e = subst (λ m. of_run m ≡ true) e refl
finished_status false n e = subst (λ m. of_run m ≡ true) e refl

run_status_is : (finish : Finish) (h : List Event) (n : ℕ) → run_status finish h ≡ n → of_run n ≡ true
run_status_is Finished h n e = finished_status ((sum_by violations_in h == 0) && (sum_by uncaught_in h == 0)) n e
run_status_is (Budget b) h n e = subst (λ m. of_run m ≡ true) e refl
run_status_is Memory h n e = subst (λ m. of_run m ≡ true) e refl
run_status_is Deadlock h n e = subst (λ m. of_run m ≡ true) e refl
run_status_is (Limit kind g count) h n e = subst (λ m. of_run m ≡ true) e refl

finished_not_five : (b : Bool) → (cond b 0 1 == 5) ≡ false
finished_not_five true = refl
finished_not_five false = refl

run_status_not_five : (finish : Finish) (h : List Event) → (run_status finish h == 5) ≡ false
run_status_not_five Finished h = finished_not_five ((sum_by violations_in h == 0) && (sum_by uncaught_in h == 0))
run_status_not_five (Budget b) h = refl
run_status_not_five Memory h = refl
run_status_not_five Deadlock h = refl
run_status_not_five (Limit kind g count) h = refl

-- 7 is the status of a run only where its finish is Memory
seven : (finish : Finish) (h : List Event) → ◌≡◌ {A = ℕ} (run_status finish h) 7 → finish ≡ Memory
seven Memory h e = refl
seven Finished h e = absurd (not_seven ((sum_by violations_in h == 0) && (sum_by uncaught_in h == 0)) e)
  where
    not_seven : (b : Bool) → ◌≡◌ {A = ℕ} (cond b 0 1) 7 → ⊥
    not_seven true e = absurd cc
    not_seven false e = absurd cc
seven (Budget b) h e = absurd cc
seven Deadlock h e = absurd cc
seven (Limit kind g count) h e = absurd cc

-- a status other than 5 is the outcome's
status_is : (outcome : Outcome) (piece : Piece) (status n : ℕ) → status ≡ status_told outcome piece → status ≡ n → (n == 5) ≡ false → status_of outcome ≡ n
status_is outcome Whole status n told e other = sym told ∙ e
status_is outcome WriteFault status n told e other = absurd (false_true (sym other ∙ ap (λ m. m == 5) (sym e ∙ told)))

-- ---- clauses

module _ (command : Option Command) (reading : Reading) (read_faults : Counted) (writing : Writing) (write_faults : Counted) (ended : Ended)
    (e : Ends command reading read_faults writing write_faults ended) where
  abbrev Told : Outcome → Type 0
  Told outcome = Tells writing.before writing.now write_faults.before write_faults.now outcome ended

  -- what holds of each run that came holds of the one that was answered
  of_run_in : (Is : RunRecord → Type 0) → ((run : RunRecord) → e.outcome ≡ Done (Ran run) → Is run) → IfSome ended.run Is
  of_run_in Is held = subst (λ v. IfSome v Is) (sym e.told.run) (of e.outcome refl)
    where
      of : (outcome : Outcome) → e.outcome ≡ outcome → IfSome (run_in outcome) Is
      of (Done (Ran run)) same = held run same
      of Usage same = tt
      of ReadFault same = tt
      of (Refused refusal source) same = tt
      of OutOfMemory same = tt
      of (Done (Checked unit)) same = tt
      of (Done (Listed unit)) same = tt

  told_of : (run : RunRecord) → e.outcome ≡ Done (Ran run) → Told (Done (Ran run))
  told_of run same = subst Told same e.told

  cause_of : (run : RunRecord) → e.outcome ≡ Done (Ran run) → HasCause command reading (Done (Ran run))
  cause_of run same = subst (HasCause command reading) same e.cause

  pub ends_headline : IfSome ended.run (λ run. IsSomeAnd command (λ c. IsRun c run))
  ends_headline = of_run_in (λ run. IsSomeAnd command (λ c. IsRun c run)) (λ run same. (cause_of run same).0)

  pub ends_accepted : IfSome ended.run (λ run. IsOf reading (program_of run.opening.unit))
  ends_accepted = of_run_in (λ run. IsOf reading (program_of run.opening.unit)) (λ run same. (cause_of run same).1)

  pub ends_status_of_run : IfSome ended.run (λ run. IsStatus ended.status (run_status run.finish run.journal.entries))
  ends_status_of_run = of_run_in (λ run. IsStatus ended.status (run_status run.finish run.journal.entries))
      (λ run same. is_status (Done (Ran run)) (told_of run same).piece ended.status (told_of run same).status)

  pub ends_report : IfSome ended.run (λ run. IsWritten writing ended.status (report_text run))
  ends_report = of_run_in (λ run. IsWritten writing ended.status (report_text run)) (λ run same.
      written (Done (Ran run)) writing (told_of run same).piece ended.status (not_five run) (told_of run same).status (told_of run same).bytes)
    where
      not_five : (run : RunRecord) → (status_of (Done (Ran run)) == 5) ≡ false
      not_five run = run_status_not_five run.finish run.journal.entries

  -- an outcome whose status is that one, unless a write failed
  has_status : (n : ℕ) → ended.status ≡ n → (n == 5) ≡ false → status_of e.outcome ≡ n
  has_status n is other = status_is e.outcome e.told.piece ended.status n e.told.status is other

  never_run : (run : RunRecord) (n : ℕ) → status_of (Done (Ran run)) ≡ n → of_run n ≡ false → ⊥
  never_run run n is other = false_true (sym other ∙ run_status_is run.finish run.journal.entries n is)

  pub ends_no_command : ended.status ≡ 2 → command ≡ None
  ends_no_command is = of e.outcome e.cause (has_status 2 is refl)
    where
      of : (outcome : Outcome) → HasCause command reading outcome → status_of outcome ≡ 2 → command ≡ None
      of Usage cause s = cause
      of ReadFault cause s = absurd cc
      of (Refused refusal source) cause s = absurd cc
      of OutOfMemory cause s = absurd cc
      of (Done (Checked unit)) cause s = absurd cc
      of (Done (Listed unit)) cause s = absurd cc
      of (Done (Ran run)) cause s = absurd (never_run run 2 s refl)

  pub ends_refused_status : IfSome ended.refusal (λ r. IsStatus ended.status 3)
  ends_refused_status = subst (λ v. IfSome v (λ r. IsStatus ended.status 3)) (sym e.told.refusal) (of e.outcome e.told)
    where
      of : (outcome : Outcome) → Told outcome → IfSome (refusal_in outcome) (λ r. IsStatus ended.status 3)
      of (Refused refusal source) told = is_status (Refused refusal source) told.piece ended.status told.status
      of Usage told = tt
      of ReadFault told = tt
      of OutOfMemory told = tt
      of (Done work) told = tt

  pub ends_refused_only : ended.status ≡ 3 → IsSome ended.refusal
  ends_refused_only is = subst (λ r. IsSome r) (sym e.told.refusal) (of e.outcome (has_status 3 is refl))
    where
      of : (outcome : Outcome) → status_of outcome ≡ 3 → IsSome (refusal_in outcome)
      of (Refused refusal source) s = refl
      of Usage s = absurd cc
      of ReadFault s = absurd cc
      of OutOfMemory s = absurd cc
      of (Done (Checked unit)) s = absurd cc
      of (Done (Listed unit)) s = absurd cc
      of (Done (Ran run)) s = absurd (never_run run 3 s refl)

  pub ends_too_long : IsTooLong reading → ended.refusal ≡ Some TooLong
  ends_too_long long = e.told.refusal ∙ e.too_long long

  pub ends_read_fault : ended.status ≡ 4 → Rose read_faults.before read_faults.now
  ends_read_fault is = of e.outcome e.counted (has_status 4 is refl)
    where
      of : (outcome : Outcome) → CountsReading read_faults.before read_faults.now outcome → status_of outcome ≡ 4 → Rose read_faults.before read_faults.now
      of ReadFault counts s = counts
      of Usage counts s = absurd cc
      of (Refused refusal source) counts s = absurd cc
      of OutOfMemory counts s = absurd cc
      of (Done (Checked unit)) counts s = absurd cc
      of (Done (Listed unit)) counts s = absurd cc
      of (Done (Ran run)) counts s = absurd (never_run run 4 s refl)

  pub ends_read_fault_only : read_faults.now ≢ read_faults.before → IsPlain ended 4
  ends_read_fault_only rose = of e.outcome e.counted e.told
    where
      of : (outcome : Outcome) → CountsReading read_faults.before read_faults.now outcome → Told outcome → IsPlain ended 4
      of ReadFault counts told = plain ReadFault ended told.piece told.status told.run told.refusal refl refl
      of Usage counts told = absurd (rose counts)
      of (Refused refusal source) counts told = absurd (rose counts)
      of OutOfMemory counts told = absurd (rose counts)
      of (Done (Checked unit)) counts told = absurd (rose counts)
      of (Done (Listed unit)) counts told = absurd (rose counts)
      of (Done (Ran run)) counts told = absurd (rose counts)

  pub ends_memory : ended.status ≡ 7 → IfSome ended.run (λ run. run.finish ≡ Memory) × (ended.refusal ≡ None)
  ends_memory is = (
    of_run_in (λ run. run.finish ≡ Memory) (λ run same. seven run.finish run.journal.entries (subst (λ o. status_of o ≡ 7) same (has_status 7 is refl))),
    e.told.refusal ∙ none e.outcome (has_status 7 is refl),
  )
    where
      none : (outcome : Outcome) → status_of outcome ≡ 7 → refusal_in outcome ≡ None
      none (Refused refusal source) s = absurd cc
      none Usage s = refl
      none ReadFault s = refl
      none OutOfMemory s = refl
      none (Done (Checked unit)) s = refl
      none (Done (Listed unit)) s = refl
      none (Done (Ran run)) s = refl

  pub ends_ran : ended.status ≢ 0 → ended.status ≢ 2 → ended.status ≢ 3 → ended.status ≢ 4 → ended.status ≢ 5 → ended.status ≢ 7 → IsSome ended.run
  ends_ran n0 n2 n3 n4 n5 n7 = subst (λ r. IsSome r) (sym e.told.run) (of e.outcome (is_status e.outcome e.told.piece ended.status e.told.status))
    where
      of : (outcome : Outcome) → IsStatus ended.status (status_of outcome) → IsSome (run_in outcome)
      of outcome (inr five) = absurd (n5 five)
      of (Done (Ran run)) (inl s) = refl
      of Usage (inl s) = absurd (n2 s)
      of ReadFault (inl s) = absurd (n4 s)
      of (Refused refusal source) (inl s) = absurd (n3 s)
      of OutOfMemory (inl s) = absurd (n7 s)
      of (Done (Checked unit)) (inl s) = absurd (n0 s)
      of (Done (Listed unit)) (inl s) = absurd (n0 s)

  pub ends_refused_complete : IsSome command → reading.ended ≡ true → (bytes : List ℕ) → reading.left ≡ Some bytes →
      ((program : Program) → Spells bytes program → ⊥) → IsSome ended.refusal ⊎ HadNoMemory ended
  ends_refused_complete some read bytes left none = of e.outcome e.cause e.told
    where
      not_none : (c : Option Command) → IsSome c → c ≡ None → ⊥
      not_none (Some c) some is = let h : ◌≡◌ {A = Option Command} (Some c) None = is in absurd cc
      not_none None some is = no_command None refl some

      of : (outcome : Outcome) → HasCause command reading outcome → Told outcome → IsSome ended.refusal ⊎ HadNoMemory ended
      of (Refused refusal source) cause told = inl (subst (λ r. IsSome r) (sym told.refusal) refl)
      of OutOfMemory cause told = inr (plain OutOfMemory ended told.piece told.status told.run told.refusal refl refl)
      of Usage cause told = absurd (not_none command some cause)
      of ReadFault cause told = absurd (false_true (sym cause.1 ∙ read))
      of (Done (Checked unit)) cause told = absurd (none (program_of unit) (spelled reading bytes (program_of unit) left cause.1))
      of (Done (Listed unit)) cause told = absurd (none (program_of unit) (spelled reading bytes (program_of unit) left cause.1))
      of (Done (Ran run)) cause told = absurd (none (program_of run.opening.unit) (spelled reading bytes (program_of run.opening.unit) left cause.1))
