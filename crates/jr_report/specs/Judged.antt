-- The clauses of a step with their verdicts, and the violations of an entry.
use Rattle.std.specs.Prelude.{◌≡◌, ◌≤◌, ◌<◌, ℕ, List, [], length, Option, Some, None, IsSome, slice_get}
use Rattle.jr_base.specs.declared.number.ClauseId.{ClauseId}
use Rattle.jr_base.specs.declared.number.GuestNo.{GuestNo}
use Rattle.jr_program.specs.Programs.{Program}
use Rattle.jr_meaning.specs.Event.{Event, Step, Judged, Wake}
use Rattle.jr_meaning.specs.Verdicts.{verdict_of}
use Rattle.jr_report.specs.Report.{Violation, violations_at, violations_from}
use Rattle.jr_report.specs.declared.violations.Given.{Given}
use Rattle.jr_report.specs.declared.violations.Passage.{Passage}

-- Each of the clauses has its verdict at step k, by its place, and nothing else has one. They are at most 16.
pub record AreJudged (h : List Event) (k : ℕ) (clauses : List ClauseId) : Type 0 where
  pub few : length clauses ≤ 16
  pub given : (place : ℕ) → place < length clauses → IsSome (verdict_of h k place)
  pub no_more : (place : ℕ) → length clauses ≤ place → verdict_of h k place ≡ None

-- of an entry that is a step
abbrev pub AreJudgedAt : List Event → ℕ → List ClauseId → Event → Type 0
AreJudgedAt h k clauses (Step g deed reply) = AreJudged h k clauses
AreJudgedAt h k clauses (Judged step place value) = Unit {0}
AreJudgedAt h k clauses (Wake g) = Unit {0}

-- the violations at an entry, which is step k if it is one
abbrev pub violations_of : Program → List Event → ℕ → Event → List Violation
violations_of program h k (Step g deed reply) = violations_at program h k
violations_of program h k (Judged step place value) = []
violations_of program h k (Wake g) = []

-- the same where that guest makes the step, and these clauses are due
abbrev pub violations_by : List Event → GuestNo → ℕ → List ClauseId → Event → List Violation
violations_by h guest k clauses (Step g deed reply) = violations_from h guest k 0 clauses
violations_by h guest k clauses (Judged step place value) = []
violations_by h guest k clauses (Wake g) = []

-- the clause at a place of those due at a step, with its verdict; none where there are no more
abbrev pub IsGivenAt : List Event → Passage → List ClauseId → ℕ → Option Given → Type 0
IsGivenAt h passage clauses place None = length clauses ≤ place
IsGivenAt h passage clauses place (Some given) =
    (slice_get clauses place ≡ Some given.clause) × (verdict_of h passage.step.0 place ≡ Some given.value)
    × (given.guest ≡ passage.guest) × (given.step ≡ passage.step)
