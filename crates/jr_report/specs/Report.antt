-- The text of a run's report, line by line.
use Rattle.std.specs.Prelude.{ℕ, ◌+◌, true, false, List, [], ◌∷◌, ◌++◌, length, map, flat_map, codes, decimal, sum_by, Option, Some, None, slice_get}
use Rattle.std.specs.Option.{option_map_or}
use Rattle.std.specs.List.{range_with_len}
use Rattle.std.specs.Fmt.{signed_decimal}
use Rattle.jr_base.specs.Deed.{Print, End}
use Rattle.jr_base.specs.declared.number.ClauseId.{ClauseId}
use Rattle.jr_base.specs.declared.number.GuestNo.{GuestNo}
use Rattle.jr_base.specs.declared.number.Position.{Position}
use Rattle.jr_base.specs.declared.number.TextId.{TextId}
use Rattle.jr_base.specs.declared.action.PrintPart.{PrintPart}
use Rattle.jr_base.specs.declared.action.PrintPart.TheVariants.{Text, Val}
use Rattle.jr_base.specs.declared.action.EndHow.TheVariants as ends
use Rattle.jr_base.specs.declared.value.Value.{Value}
use Rattle.jr_base.specs.declared.value.Value.TheVariants as values
use Rattle.jr_base.specs.declared.finish.Finish.{Finish}
use Rattle.jr_base.specs.declared.finish.Finish.TheVariants.{Finished, Deadlock, Budget, Limit, Memory}
use Rattle.jr_base.specs.declared.finish.Fault.{Fault}
use Rattle.jr_base.specs.declared.finish.Fault.TheVariants as faults
use Rattle.jr_base.specs.declared.finish.LimitKind.{LimitKind}
use Rattle.jr_base.specs.declared.finish.LimitKind.TheVariants as kinds
use Rattle.jr_base.specs.declared.finish.Verdict.{Verdict}
use Rattle.jr_base.specs.declared.finish.Verdict.TheVariants as verdicts
use Rattle.jr_program.specs.declared.words.ClauseKind.{ClauseKind}
use Rattle.jr_program.specs.declared.words.ClauseKind.TheVariants as clauses
use Rattle.jr_program.specs.Clauses.{Clause}
use Rattle.jr_program.specs.Programs.{Program, clause_at}
use Rattle.jr_meaning.specs.Event.{Event, Step, Judged}
use Rattle.jr_meaning.specs.History.{world_after, step_count, steps_in}
use Rattle.jr_meaning.specs.Due.{Due}
use Rattle.jr_meaning.specs.Verdicts.{Moment, due_at, moment_of, verdict_of}

-- ---- prints

-- what println writes of a value (JLS 5.1.11, 15.18.1); no program prints a reference
abbrev pub value_text : Value → List ℕ
value_text (values.Int n) = signed_decimal n
value_text (values.Long n) = signed_decimal n
value_text (values.Bool true) = codes "true"
value_text (values.Bool false) = codes "false"
value_text values.Null = []
value_text (values.Ref object) = []

-- the bytes that a string literal stands for (JLS 3.10.5)
abbrev pub literal_text : Program → TextId → List ℕ
literal_text program text = option_map_or (λ (bytes : List ℕ). bytes) (slice_get program.texts text.0) []

abbrev pub part_text : Program → PrintPart → List ℕ
part_text program (Val value) = value_text value
part_text program (Text text) = literal_text program text

abbrev pub out_line : Program → GuestNo → List PrintPart → List ℕ
out_line program g parts = codes "out " ++ decimal g.0 ++ codes ": " ++ flat_map (part_text program) parts

-- a line for each Print
abbrev pub out_lines_of : Program → Event → List (List ℕ)
out_lines_of program (Step g (Print parts) reply) = out_line program g parts ∷ []
out_lines_of program _ = []

-- in the order of steps
abbrev pub out_lines : Program → List Event → List (List ℕ)
out_lines program h = flat_map (out_lines_of program) h

-- ---- violations

-- a clause due at a step that isn't known to hold there
pub record Violation : Type 0 where
  pub clause : ClauseId
  pub value : Verdict
  pub guest : GuestNo
  pub step : ℕ

-- a verdict other than True is a violation
abbrev pub violation_in : ClauseId → GuestNo → ℕ → Option Verdict → List Violation
violation_in clause g k None = []
violation_in clause g k (Some verdicts.True) = []
violation_in clause g k (Some value) = record { clause = clause; value = value; guest = g; step = k } ∷ []

-- of the clauses due at step k, which stand there from a place on, by place
abbrev pub violations_from : List Event → GuestNo → ℕ → ℕ → List ClauseId → List Violation
violations_from h g k place [] = []
violations_from h g k place (clause ∷ clauses) = violation_in clause g k (verdict_of h k place) ++ violations_from h g k (place + 1) clauses

-- the clauses due at a moment, in order
abbrev pub clauses_due : Program → Moment → List ClauseId
clauses_due program moment = map (λ (d : Due). d.clause) (due_at program moment)

-- of step k
abbrev pub violations_at : Program → List Event → ℕ → List Violation
violations_at program h k =
    option_map_or (λ (moment : Moment). violations_from h moment.guest k 0 (clauses_due program moment)) (moment_of h k) []

-- by step and place, in whatever order they were judged
abbrev pub violations : Program → List Event → List Violation
violations program h = flat_map (violations_at program h) (range_with_len 0 (step_count h))

-- a clause is called by its keyword (JML Reference Manual)
abbrev pub clause_kind_text : ClauseKind → List ℕ
clause_kind_text clauses.Requires = codes "requires"
clause_kind_text clauses.Ensures = codes "ensures"
clause_kind_text clauses.When = codes "when"
clause_kind_text clauses.Locks = codes "locks"
clause_kind_text clauses.MonitorsFor = codes "monitors_for"
clause_kind_text clauses.Invariant = codes "invariant"
clause_kind_text clauses.Constraint = codes "constraint"
clause_kind_text clauses.Assert = codes "assert"
clause_kind_text clauses.Atomic = codes "atomic"

abbrev pub verdict_text : Verdict → List ℕ
verdict_text verdicts.True = codes "True"
verdict_text verdicts.False = codes "False"
verdict_text verdicts.Undefined = codes "Undefined"
verdict_text verdicts.Wide = codes "Wide"

-- line and column, columns in bytes
abbrev pub position_text : Position → List ℕ
position_text place = decimal place.line ++ codes ":" ++ decimal place.column

-- A clause with its value, and where its keyword stands. A clause that is due is there in each program that
-- passed the checks.
abbrev pub clause_text : Option Clause → Verdict → List ℕ
clause_text None value = []
clause_text (Some clause) value =
    clause_kind_text clause.kind ++ codes " " ++ verdict_text value ++ codes " at " ++ position_text clause.place

abbrev pub violation_line : Program → ℕ → Violation → List ℕ
violation_line program n violation =
    codes "violation " ++ decimal n ++ codes ": " ++ clause_text (clause_at program violation.clause) violation.value
    ++ codes ", guest " ++ decimal violation.guest.0 ++ codes ", step " ++ decimal violation.step

-- a line for each, with the next number from n on
abbrev pub numbered_lines : Program → ℕ → List Violation → List (List ℕ)
numbered_lines program n [] = []
numbered_lines program n (violation ∷ more) = violation_line program n violation ∷ numbered_lines program (n + 1) more

abbrev pub violation_lines : Program → List Event → List (List ℕ)
violation_lines program h = numbered_lines program 1 (violations program h)

-- ---- guests that an exception ended

abbrev pub fault_name : Fault → List ℕ
fault_name faults.Exception = codes "Exception"
fault_name faults.RuntimeException = codes "RuntimeException"
fault_name faults.InterruptedException = codes "InterruptedException"
fault_name faults.ArithmeticException = codes "ArithmeticException"
fault_name faults.NullPointerException = codes "NullPointerException"
fault_name faults.NegativeArraySizeException = codes "NegativeArraySizeException"
fault_name faults.IllegalMonitorStateException = codes "IllegalMonitorStateException"
fault_name faults.IndexOutOfBoundsException = codes "IndexOutOfBoundsException"
fault_name faults.IllegalArgumentException = codes "IllegalArgumentException"
fault_name faults.ArrayIndexOutOfBoundsException = codes "ArrayIndexOutOfBoundsException"
fault_name faults.IllegalThreadStateException = codes "IllegalThreadStateException"

abbrev pub uncaught_line : Fault → GuestNo → ℕ → List ℕ
uncaught_line fault g k =
    codes "uncaught " ++ fault_name fault ++ codes ", guest " ++ decimal g.0 ++ codes ", step " ++ decimal k

-- a line for each guest that an exception ended; k is the number of the step
abbrev pub uncaught_lines_of : ℕ → Event → List (List ℕ)
uncaught_lines_of k (Step g (End (ends.Uncaught fault)) reply) = uncaught_line fault g k ∷ []
uncaught_lines_of k _ = []

-- in the order of steps; k is the number of the next one
abbrev pub uncaught_lines : ℕ → List Event → List (List ℕ)
uncaught_lines k [] = []
uncaught_lines k (e ∷ h) = uncaught_lines_of k e ++ uncaught_lines (k + steps_in e) h

-- ---- the end

abbrev pub kind_text : LimitKind → List ℕ
kind_text kinds.Guests = codes "guests"
kind_text kinds.Frames = codes "frames"
kind_text kinds.Objects = codes "objects"
kind_text kinds.Cells = codes "cells"
kind_text kinds.Held = codes "held"

abbrev pub finish_line : Finish → List ℕ
finish_line Finished = codes "finish Finished"
finish_line Deadlock = codes "finish Deadlock"
finish_line (Budget n) = codes "finish Budget " ++ decimal n
finish_line (Limit kind g count) =
    codes "finish Limit " ++ kind_text kind ++ codes ", guest " ++ decimal g.0 ++ codes ", count " ++ decimal count
finish_line Memory = codes "finish Memory"

abbrev pub verdicts_in : Event → ℕ
verdicts_in (Judged step place value) = 1
verdicts_in _ = 0

-- a verdict other than True is a violation
abbrev pub violations_in : Event → ℕ
violations_in (Judged step place verdicts.True) = 0
violations_in (Judged step place _) = 1
violations_in _ = 0

-- whether an exception ended a guest
abbrev pub uncaught_in : Event → ℕ
uncaught_in (Step g (End (ends.Uncaught fault)) reply) = 1
uncaught_in _ = 0

abbrev pub summary_text : (steps guests verdicts violations uncaught : ℕ) → List ℕ
summary_text steps guests verdicts violations uncaught =
    codes "steps " ++ decimal steps
    ++ codes ", guests " ++ decimal guests
    ++ codes ", verdicts " ++ decimal verdicts
    ++ codes ", violations " ++ decimal violations
    ++ codes ", uncaught " ++ decimal uncaught

-- What was counted: the guests are those that were started, main's among them.
abbrev pub summary_line : Program → List Event → List ℕ
summary_line program h =
    summary_text (step_count h) (length (world_after program h).guests) (sum_by verdicts_in h) (sum_by violations_in h) (sum_by uncaught_in h)

-- ---- the whole

-- the lines of a report, in order
abbrev pub report_lines : Program → List Event → Finish → List (List ℕ)
report_lines program h finish =
    out_lines program h ++ violation_lines program h ++ uncaught_lines 0 h ++ finish_line finish ∷ summary_line program h ∷ []

-- lines as bytes: each is ended by a line feed
abbrev pub bytes_of_lines : List (List ℕ) → List ℕ
bytes_of_lines lines = flat_map (λ line. line ++ 10 ∷ []) lines

abbrev pub report : Program → List Event → Finish → List ℕ
report program h finish = bytes_of_lines (report_lines program h finish)
