-- What comes of a source that is read to its end, and what is written then.
use Rattle.std.proofs.Common.{◌≡◌, ◌==◌, ◌⊎◌, ℕ, Bool, true, false, cond, List, Option, Some, None, IsSome, IsNone, IfSome, IsSomeAnd, refl, sym, ap, subst, ◌∙◌, inl, inr}
use Rattle.jr_base.specs.declared.refusal.Refusal.{Refusal}
use Rattle.jr_base.specs.declared.refusal.Refusal.TheVariants.{NotBuilt}
use Rattle.jr_io.specs.declared.sink.Piece.{Piece}
use Rattle.jr_io.specs.declared.sink.Piece.TheVariants.{Whole, WriteFault}
use Rattle.jr_io.specs.Writes.{WritesPiece}
use Rattle.jr_program.specs.Programs.{Program}
use Rattle.jr_program.specs.UnitViews.{program_of}
use Rattle.jr_journal.specs.declared.journal.RunRecord.{RunRecord}
use Rattle.jr_command.specs.declared.command.Command.{Command}
use Rattle.jr_command.specs.declared.command.Command.TheVariants.{RunSerial, Check, Clauses}
use Rattle.jr_cli.specs.declared.outcome.Outcome.{Outcome}
use Rattle.jr_cli.specs.declared.outcome.Outcome.TheVariants.{Usage, ReadFault, Refused, OutOfMemory, Done}
use Rattle.jr_cli.specs.declared.outcome.Work.{Work}
use Rattle.jr_cli.specs.declared.outcome.Work.TheVariants.{Checked, Listed, Ran}
use Rattle.jr_cli.specs.declared.ended.Ended.{Ended}
use Rattle.jr_cli.specs.Causes.{Reading, Blames, too_long, refused, IsRefusedBy, for_source, not_built, IsNotBuilt, IsOf, Refuses, HasCause, refusal_in}
use Rattle.jr_cli.specs.Commands.{may_do, listing_of, IsRun, IsRunBy}
use Rattle.jr_cli.specs.Texts.{text_of, status_of, status_told, run_in, Tells}
use Rattle.jr_cli.specs.Ends.{Counted, Writing, Ends, IsStatus, IsWritten, IsPlain, Lists, Does, HadNoMemory, Runs, IsRefusal, IsListing}
use Rattle.jr_cli.specs.Sources.{Spells, IsRefused}
use Rattle.jr_cli.proofs.SourceAnswers.{one_meaning}

true_false : true ≡ false → ⊥
true_false e = absurd cc

pub no_command : (c : Option Command) → IsNone c → IsSome c → ⊥
no_command (Some c) none some = cc
no_command None none some = cc

no_words : (c : Command) → IsNone (Some c) → ⊥
no_words c none = cc

-- ---- what was told

pub is_status : (outcome : Outcome) (piece : Piece) (status : ℕ) → status ≡ status_told outcome piece → IsStatus status (status_of outcome)
is_status outcome Whole status e = inl e
is_status outcome WriteFault status e = inr e

pub written : (outcome : Outcome) (writing : Writing) (piece : Piece) (status : ℕ) → (status_of outcome == 5) ≡ false → status ≡ status_told outcome piece →
    WritesPiece writing.before writing.now piece (text_of outcome) → IsWritten writing status (text_of outcome)
written outcome writing Whole status other e bytes =
    subst (λ b. WritesPiece writing.before writing.now (cond b WriteFault Whole) (text_of outcome)) (sym (ap (λ n. n == 5) e ∙ other)) bytes
written outcome writing WriteFault status other e bytes =
    subst (λ b. WritesPiece writing.before writing.now (cond b WriteFault Whole) (text_of outcome)) (sym (ap (λ n. n == 5) e)) bytes

-- an outcome of which nothing is kept
pub plain : (outcome : Outcome) (ended : Ended) (piece : Piece) → ended.status ≡ status_told outcome piece → ended.run ≡ run_in outcome →
    ended.refusal ≡ refusal_in outcome → run_in outcome ≡ None → refusal_in outcome ≡ None → IsPlain ended (status_of outcome)
plain outcome ended piece status run refusal no_run no_refusal = record {
  status = is_status outcome piece ended.status status;
  no_run = run ∙ no_run;
  no_refusal = refusal ∙ no_refusal;
}

-- ---- what came of the source

pub spelled : (reading : Reading) (bytes : List ℕ) (p : Program) → reading.left ≡ Some bytes → IsOf reading p → Spells bytes p
spelled reading bytes p left is = subst (λ l. IfSome l (λ b. Spells b p)) left is.1

same_program : (reading : Reading) (bytes : List ℕ) (p q : Program) → reading.left ≡ Some bytes → IsOf reading p → Spells bytes q → p ≡ q
same_program reading bytes p q left is spells = (one_meaning bytes).one_program p q (spelled reading bytes p left is) spells

-- where the source spells a program, it is refused only where that one can't be run yet
refused_program : (command : Command) (reading : Reading) (bytes source : List ℕ) (program : Program) (r : Refusal) → reading.ended ≡ true →
    reading.left ≡ Some bytes → Spells bytes program → Blames command reading source r → (r ≡ NotBuilt) × (may_do command program ≡ false)
refused_program command reading bytes source program r read left spells (too_long long told more) = absurd (true_false (sym read ∙ more))
refused_program command reading bytes source program r read left spells (refused whole because) = of because
  where
    same : bytes ≡ source
    same = subst (λ l. IfSome l (λ b. b ≡ source)) left whole.1

    of : {q : Refusal} → IsRefusedBy command source q → (q ≡ NotBuilt) × (may_do command program ≡ false)
    of (for_source {r = q} refusal) =
        absurd ((one_meaning bytes).program_or_refused program q spells (subst (λ b. IsRefused b q) (sym same) refusal))
    of (not_built is) = (
      refl,
      ap (may_do command) ((one_meaning bytes).one_program program is.program spells (subst (λ b. Spells b is.program) (sym same) is.spelled)) ∙ is.not_built,
    )

-- ---- a command on a source that spells a program

lists : (command : Command) (outcome : Outcome) (program : Program) (writing : Writing) (ended : Ended) (before now : ℕ) →
    Tells writing.before writing.now before now outcome ended → status_of outcome ≡ 0 → run_in outcome ≡ None → refusal_in outcome ≡ None →
    listing_of command program ≡ Some (text_of outcome) → Lists command program writing ended
lists command outcome program writing ended before now told zero no_run no_refusal text = record {
  plain = subst (λ n. IsPlain ended n) zero (plain outcome ended told.piece told.status told.run told.refusal no_run no_refusal);
  written = subst (λ t. IsSomeAnd t (IsWritten writing ended.status)) (sym text)
      (written outcome writing told.piece ended.status (ap (λ n. n == 5) zero) told.status told.bytes);
}

runs : (ended : Ended) (run : RunRecord) (program : Program) → ended.run ≡ Some run → program_of run.opening.unit ≡ program → Runs ended program
runs ended run program e same = subst (λ v. IsSomeAnd v (λ run. program_of run.opening.unit ≡ program)) (sym e) same

ends_complete : (command : Command) (reading : Reading) (read_faults : Counted) (writing : Writing) (write_faults : Counted) (ended : Ended) →
    Ends (Some command) reading read_faults writing write_faults ended → reading.ended ≡ true → (bytes : List ℕ) → reading.left ≡ Some bytes →
    (program : Program) → Spells bytes program → may_do command program ≡ true → Does command program writing ended ⊎ HadNoMemory ended
ends_complete command reading read_faults writing write_faults ended e read bytes left program spells may = of e.outcome e.cause e.told
  where
    ran : (c : Command) (run : RunRecord) → IsRun c run → Runs ended program → Does c program writing ended
    ran (RunSerial seed budget) run is runs = runs
    ran Check run is runs = absurd is
    ran Clauses run is runs = absurd is

    of : (outcome : Outcome) → HasCause (Some command) reading outcome →
        Tells writing.before writing.now write_faults.before write_faults.now outcome ended → Does command program writing ended ⊎ HadNoMemory ended
    of (Done (Ran run)) cause told =
        inl (ran command run cause.0 (runs ended run program told.run (same_program reading bytes (program_of run.opening.unit) program left cause.1 spells)))
    of (Done (Checked unit)) cause told =
        inl (subst (λ c. Does c program writing ended) (sym cause.0)
        (subst (λ p. Lists Check p writing ended) (same_program reading bytes (program_of unit) program left cause.1 spells)
        (lists Check (Done (Checked unit)) (program_of unit) writing ended write_faults.before write_faults.now told refl refl refl refl)))
    of (Done (Listed unit)) cause told =
        inl (subst (λ c. Does c program writing ended) (sym cause.0)
        (subst (λ p. Lists Clauses p writing ended) (same_program reading bytes (program_of unit) program left cause.1 spells)
        (lists Clauses (Done (Listed unit)) (program_of unit) writing ended write_faults.before write_faults.now told refl refl refl refl)))
    of OutOfMemory cause told = inr (plain OutOfMemory ended told.piece told.status told.run told.refusal refl refl)
    of Usage cause told = absurd (let h : ◌≡◌ {A = Option Command} (Some command) None = cause in absurd cc)
    of ReadFault cause told = absurd (true_false (sym read ∙ cause.1))
    of (Refused refusal source) cause told =
        absurd (true_false (sym may ∙ (refused_program command reading bytes source.items program refusal read left spells cause.cause).1))

ends_not_built : (command : Command) (reading : Reading) (read_faults : Counted) (writing : Writing) (write_faults : Counted) (ended : Ended) →
    Ends (Some command) reading read_faults writing write_faults ended → reading.ended ≡ true → (bytes : List ℕ) → reading.left ≡ Some bytes →
    (program : Program) → Spells bytes program → may_do command program ≡ false → (ended.refusal ≡ Some NotBuilt) ⊎ HadNoMemory ended
ends_not_built command reading read_faults writing write_faults ended e read bytes left program spells may_not = of e.outcome e.cause e.told
  where
    never : (c : Command) → may_do c program ≡ false → c ≡ Check → ⊥
    never c may_not is = true_false (subst (λ c. may_do c program ≡ false) is may_not)

    never_clauses : (c : Command) → may_do c program ≡ false → c ≡ Clauses → ⊥
    never_clauses c may_not is = true_false (subst (λ c. may_do c program ≡ false) is may_not)

    ran : (c : Command) (run : RunRecord) → IsRun c run → may_do c program ≡ false → program_of run.opening.unit ≡ program → ⊥
    ran (RunSerial seed budget) run is may_not same = true_false (sym (subst (λ p. may_do (RunSerial seed budget) p ≡ true) same is.built) ∙ may_not)
    ran Check run is may_not same = is
    ran Clauses run is may_not same = is

    of : (outcome : Outcome) → HasCause (Some command) reading outcome →
        Tells writing.before writing.now write_faults.before write_faults.now outcome ended → (ended.refusal ≡ Some NotBuilt) ⊎ HadNoMemory ended
    of (Done (Ran run)) cause told =
        absurd (ran command run cause.0 may_not (same_program reading bytes (program_of run.opening.unit) program left cause.1 spells))
    of (Done (Checked unit)) cause told = absurd (never command may_not cause.0)
    of (Done (Listed unit)) cause told = absurd (never_clauses command may_not cause.0)
    of OutOfMemory cause told = inr (plain OutOfMemory ended told.piece told.status told.run told.refusal refl refl)
    of Usage cause told = absurd (let h : ◌≡◌ {A = Option Command} (Some command) None = cause in absurd cc)
    of ReadFault cause told = absurd (true_false (sym read ∙ cause.1))
    of (Refused refusal source) cause told =
        inl (told.refusal ∙ ap Some (refused_program command reading bytes source.items program refusal read left spells cause.cause).0)

-- the same of the command that words are
module _ (words : Option Command) (reading : Reading) (read_faults : Counted) (writing : Writing) (write_faults : Counted) (ended : Ended)
    (ends : Ends words reading read_faults writing write_faults ended) where
  ends_of : (command : Command) → words ≡ Some command → Ends (Some command) reading read_faults writing write_faults ended
  ends_of command is = subst (λ w. Ends w reading read_faults writing write_faults ended) is ends

  pub complete_of : (command : Command) → words ≡ Some command → reading.ended ≡ true → (bytes : List ℕ) → reading.left ≡ Some bytes →
      (program : Program) → Spells bytes program → may_do command program ≡ true → Does command program writing ended ⊎ HadNoMemory ended
  complete_of command is = ends_complete command reading read_faults writing write_faults ended (ends_of command is)

  pub not_built_of : (command : Command) → words ≡ Some command → reading.ended ≡ true → (bytes : List ℕ) → reading.left ≡ Some bytes →
      (program : Program) → Spells bytes program → may_do command program ≡ false → (ended.refusal ≡ Some NotBuilt) ⊎ HadNoMemory ended
  not_built_of command is = ends_not_built command reading read_faults writing write_faults ended (ends_of command is)

-- ---- what is answered has its cause

pub ends_usage : (command : Option Command) (reading : Reading) (read_faults : Counted) (writing : Writing) (write_faults : Counted) (ended : Ended) →
    Ends command reading read_faults writing write_faults ended → IsNone command → IsPlain ended 2
ends_usage (Some c) reading read_faults writing write_faults ended e none = absurd (no_words c none)
ends_usage None reading read_faults writing write_faults ended e none = of e.outcome e.cause e.told
  where
    of : (outcome : Outcome) → HasCause None reading outcome →
        Tells writing.before writing.now write_faults.before write_faults.now outcome ended → IsPlain ended 2
    of Usage cause told = plain Usage ended told.piece told.status told.run told.refusal refl refl
    of OutOfMemory cause told = absurd (no_command None none cause)
    of ReadFault cause told = absurd (no_command None none cause.0)
    of (Refused refusal source) cause told = absurd cause
    of (Done (Checked unit)) cause told = absurd cause.0
    of (Done (Listed unit)) cause told = absurd cause.0
    of (Done (Ran run)) cause told = absurd cause.0

pub ends_listed : (command : Option Command) (reading : Reading) (read_faults : Counted) (writing : Writing) (write_faults : Counted) (ended : Ended) →
    Ends command reading read_faults writing write_faults ended → ended.status ≡ 0 → ended.run ≡ None →
    IsSomeAnd command (λ c. IsListing c reading writing ended)
ends_listed command reading read_faults writing write_faults ended e zero none = of e.outcome e.cause e.told
  where
    listed_by : (words : Option Command) (done : Command) → IsSomeAnd words (λ c. c ≡ done) → IsListing done reading writing ended →
        IsSomeAnd words (λ c. IsListing c reading writing ended)
    listed_by (Some c) done same is = subst (λ c. IsListing c reading writing ended) (sym same) is
    listed_by None done same is = absurd same

    told_of : (outcome : Outcome) (piece : Piece) → ended.status ≡ status_told outcome piece → (status_of outcome == 0) ≡ false → ⊥
    told_of outcome Whole status other = true_false (ap (λ n. n == 0) (sym zero ∙ status) ∙ other)
    told_of outcome WriteFault status other = true_false (ap (λ n. n == 0) (sym zero ∙ status))

    of : (outcome : Outcome) → HasCause command reading outcome →
        Tells writing.before writing.now write_faults.before write_faults.now outcome ended → IsSomeAnd command (λ c. IsListing c reading writing ended)
    of Usage cause told = absurd (told_of Usage told.piece told.status refl)
    of OutOfMemory cause told = absurd (told_of OutOfMemory told.piece told.status refl)
    of ReadFault cause told = absurd (told_of ReadFault told.piece told.status refl)
    of (Refused refusal source) cause told = absurd (told_of (Refused refusal source) told.piece told.status refl)
    of (Done (Checked unit)) cause told = listed_by command Check cause.0 (record {
      program = program_of unit;
      source = cause.1;
      lists = lists Check (Done (Checked unit)) (program_of unit) writing ended write_faults.before write_faults.now told refl refl refl refl;
    })
    of (Done (Listed unit)) cause told = listed_by command Clauses cause.0 (record {
      program = program_of unit;
      source = cause.1;
      lists = lists Clauses (Done (Listed unit)) (program_of unit) writing ended write_faults.before write_faults.now told refl refl refl refl;
    })
    of (Done (Ran run)) cause told = absurd (let h : ◌≡◌ {A = Option RunRecord} None (Some run) = sym none ∙ told.run in absurd cc)

pub ends_refused : (command : Option Command) (reading : Reading) (read_faults : Counted) (writing : Writing) (write_faults : Counted) (ended : Ended) →
    Ends command reading read_faults writing write_faults ended →
    IfSome ended.refusal (λ r. IsSomeAnd command (λ c. IsRefusal c reading writing ended r))
ends_refused command reading read_faults writing write_faults ended e = of e.outcome e.cause e.told
  where
    Answer : Option Refusal → Type 0
    Answer refusal = IfSome refusal (λ r. IsSomeAnd command (λ c. IsRefusal c reading writing ended r))

    with_command : (c : Option Command) (refusal : Refusal) (source : List ℕ) → IsSomeAnd c (λ c. Refuses c reading source refusal) →
        ((d : Command) → Refuses d reading source refusal → IsRefusal d reading writing ended refusal) →
        IsSomeAnd c (λ c. IsRefusal c reading writing ended refusal)
    with_command (Some c) refusal source cause is = is c cause
    with_command None refusal source cause is = absurd cause

    of : (outcome : Outcome) → HasCause command reading outcome →
        Tells writing.before writing.now write_faults.before write_faults.now outcome ended → Answer ended.refusal
    of (Refused refusal source) cause told = subst Answer (sym told.refusal) (with_command command refusal source.items cause (λ d because. record {
      source = source.items;
      cause = because;
      status = is_status (Refused refusal source) told.piece ended.status told.status;
      no_run = told.run;
      written = written (Refused refusal source) writing told.piece ended.status refl told.status told.bytes;
    }))
    of Usage cause told = subst Answer (sym told.refusal) tt
    of OutOfMemory cause told = subst Answer (sym told.refusal) tt
    of ReadFault cause told = subst Answer (sym told.refusal) tt
    of (Done (Checked unit)) cause told = subst Answer (sym told.refusal) tt
    of (Done (Listed unit)) cause told = subst Answer (sym told.refusal) tt
    of (Done (Ran run)) cause told = subst Answer (sym told.refusal) tt
