-- What is written of what came of a call, and its status.
use Rattle.std.specs.Prelude.{◌≡◌, ◌==◌, ◌&&◌, ◌≤◌, ℕ, cond, List, [], ◌∷◌, ◌++◌, length, Option, Some, None, codes, sum_by}
use Rattle.jr_base.specs.declared.finish.Finish.{Finish}
use Rattle.jr_base.specs.declared.finish.Finish.TheVariants.{Finished, Deadlock, Budget, Limit, Memory}
use Rattle.jr_io.specs.declared.sink.Piece.{Piece}
use Rattle.jr_io.specs.declared.sink.Piece.TheVariants.{Whole, WriteFault}
use Rattle.jr_io.specs.Writes.{WritesPiece, CountsPieceFault}
use Rattle.jr_program.specs.UnitViews.{program_of}
use Rattle.jr_meaning.specs.Event.{Event}
use Rattle.jr_meaning.specs.Right.{IsRightRun}
use Rattle.jr_journal.specs.declared.journal.RunRecord.{RunRecord}
use Rattle.jr_report.specs.Listing.{check_line, listing}
use Rattle.jr_report.specs.Refusals.{refusal_line}
use Rattle.jr_report.specs.Report.{report, violations_in, uncaught_in}
use Rattle.jr_cli.specs.declared.outcome.Outcome.{Outcome}
use Rattle.jr_cli.specs.declared.outcome.Outcome.TheVariants.{Usage, ReadFault, Refused, OutOfMemory, Done}
use Rattle.jr_cli.specs.declared.outcome.Work.{Work}
use Rattle.jr_cli.specs.declared.outcome.Work.TheVariants.{Checked, Listed, Ran}
use Rattle.jr_cli.specs.declared.ended.Ended.{Ended}
use Rattle.jr_cli.specs.Causes.{refusal_in}
use Rattle.jr_cli.specs.Commands.{run_of}

-- what can be told: a refusal of a source that isn't too long to have places in it, or a right record
abbrev pub IsTellableWork : Work → Type 0
IsTellableWork (Ran run) = IsRightRun (program_of run.opening.unit) run.opening.budget (run_of run)
IsTellableWork _ = Unit {0}

abbrev pub IsTellable : Outcome → Type 0
IsTellable (Refused refusal source) = length source.items ≤ 1048576
IsTellable (Done work) = IsTellableWork work
IsTellable _ = Unit {0}

-- the report of a run
abbrev pub report_text : RunRecord → List ℕ
report_text run = report (program_of run.opening.unit) run.journal.entries run.finish

-- the commands that there are
abbrev pub usage_text : List ℕ
usage_text = codes "usage: jmlrac run --serial SEED [--budget N] < SOURCE\n       jmlrac check < SOURCE\n       jmlrac clauses < SOURCE\n"

abbrev pub text_of_work : Work → List ℕ
text_of_work (Checked unit) = check_line (program_of unit) ++ 10 ∷ []
text_of_work (Listed unit) = listing (program_of unit)
text_of_work (Ran run) = report_text run

abbrev pub text_of : Outcome → List ℕ
text_of Usage = usage_text
text_of ReadFault = codes "read fault\n"
text_of (Refused refusal source) = refusal_line source.items refusal ++ 10 ∷ []
text_of OutOfMemory = codes "out of memory\n"
text_of (Done work) = text_of_work work

-- the status of a run: 0 where it finished with no violation and no uncaught exception, 1 where it finished
-- with one, else that of its finish
abbrev pub run_status : Finish → List Event → ℕ
run_status Finished h = cond ((sum_by violations_in h == 0) && (sum_by uncaught_in h == 0)) 0 1
run_status (Budget n) h = 6
run_status Memory h = 7
run_status Deadlock h = 8
run_status (Limit kind guest count) h = 9

abbrev pub status_of_work : Work → ℕ
status_of_work (Checked unit) = 0
status_of_work (Listed unit) = 0
status_of_work (Ran run) = run_status run.finish run.journal.entries

abbrev pub status_of : Outcome → ℕ
status_of Usage = 2
status_of (Refused refusal source) = 3
status_of ReadFault = 4
status_of OutOfMemory = 7
status_of (Done work) = status_of_work work

-- 5 where a write failed, whatever it was that was written
abbrev pub status_told : Outcome → Piece → ℕ
status_told outcome Whole = status_of outcome
status_told outcome WriteFault = 5

abbrev pub run_of_work : Work → Option RunRecord
run_of_work (Ran run) = Some run
run_of_work _ = None

abbrev pub run_in : Outcome → Option RunRecord
run_in (Done work) = run_of_work work
run_in _ = None

-- The outcome's text was written, whole or up to a fault of the sink, and the answer is the outcome's: between
-- these bytes written, and these counts of faults.
pub record Tells (before now : Option (List ℕ)) (faults_before faults : ℕ) (outcome : Outcome) (ended : Ended) : Type 0 where
  pub piece : Piece
  pub bytes : WritesPiece before now piece (text_of outcome)
  pub counted : CountsPieceFault faults_before faults piece
  pub status : ended.status ≡ status_told outcome piece
  pub refusal : ended.refusal ≡ refusal_in outcome
  pub run : ended.run ≡ run_in outcome
