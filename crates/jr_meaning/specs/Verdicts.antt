-- Which clauses are due at the steps of a history, what they are worth there, and which verdicts are right.
use Rattle.std.specs.Prelude.{◌≡◌, ◌==◌, ◌<◌, ◌+◌, ◌-◌, ℕ, cond, not, flat_map, is_some, List, [], ◌∷◌, ◌++◌, map, All, Option, Some, None, IsSome, slice_get, option_and_then, length}
use Rattle.std.specs.Option.{option_map, option_map_or}
use Rattle.std.specs.List.{filter, range_with_len}
use Rattle.jr_base.specs.Deed.{Deed}
use Rattle.jr_base.specs.declared.number.GuestNo.{GuestNo}
use Rattle.jr_base.specs.declared.number.Stamp.{Stamp}
use Rattle.jr_base.specs.declared.action.Reply.{Reply}
use Rattle.jr_base.specs.declared.finish.Verdict.{Verdict}
use Rattle.jr_base.specs.declared.finish.Verdict.TheVariants.{Undefined}
use Rattle.jr_program.specs.declared.words.ClauseKind.{ClauseKind}
use Rattle.jr_program.specs.declared.words.ClauseKind.TheVariants.{Atomic}
use Rattle.jr_program.specs.Clauses.{Clause}
use Rattle.jr_program.specs.Programs.{Program, clause_at}
use Rattle.jr_meaning.specs.Along.{Each}
use Rattle.jr_meaning.specs.Event.{Event, Step, Judged, Wake}
use Rattle.jr_meaning.specs.Machine.{owns}
use Rattle.jr_meaning.specs.Frames.{Frame, frames_of}
use Rattle.jr_meaning.specs.History.{world_after, step_count}
use Rattle.jr_meaning.specs.Heap.{Heap, heap_of}
use Rattle.jr_meaning.specs.Worth.{Setting}
use Rattle.jr_meaning.specs.Due.{Due, due_of, old_place}
use Rattle.jr_meaning.specs.Judge.{clause_value, atomic_value}
use Rattle.jr_meaning.specs.World.{World}

-- the moment of a step: what came before it, and who is about to do what
pub record Moment : Type 0 where
  pub before : List Event
  pub guest : GuestNo
  pub deed : Deed

-- the moment of the step that is k steps on in the rest
abbrev pub moment_from : List Event → List Event → ℕ → Option Moment
moment_from before [] k = None
moment_from before (Step g deed reply ∷ h) k =
    cond (k == 0) (Some (record { before = before; guest = g; deed = deed })) (moment_from (before ++ Step g deed reply ∷ []) h (k - 1))
moment_from before (Judged step place value ∷ h) k = moment_from (before ++ Judged step place value ∷ []) h k
moment_from before (Wake g ∷ h) k = moment_from (before ++ Wake g ∷ []) h k

-- the moment of step k
abbrev pub moment_of : List Event → ℕ → Option Moment
moment_of h k = moment_from [] h k

-- the entries before step k
abbrev pub before_step : List Event → ℕ → List Event
before_step [] k = []
before_step (Step g deed reply ∷ h) k = cond (k == 0) [] (Step g deed reply ∷ before_step h (k - 1))
before_step (Judged step place value ∷ h) k = Judged step place value ∷ before_step h k
before_step (Wake g ∷ h) k = Wake g ∷ before_step h k

-- the world before step k, with all wake-ups that stand before that step
abbrev pub world_before : Program → List Event → ℕ → World
world_before program h k = world_after program (before_step h k)

-- ---- which clauses are due

-- the frame that makes the step: the guest's newest
abbrev pub frame_at : Moment → Option Frame
frame_at moment = slice_get (frames_of moment.before moment.guest) 0

-- the clauses due at a moment, in order
abbrev pub due_at : Program → Moment → List Due
due_at program moment = due_of program (world_after program moment.before) (frame_at moment) moment.guest moment.deed

-- the clauses due at step k
abbrev pub due : Program → List Event → ℕ → List Due
due program h k = option_map_or (due_at program) (moment_of h k) []

-- the old place of step k: the step of its frame's Call, where a clause that is due looks back
abbrev pub old_place_of : Program → List Event → ℕ → Option ℕ
old_place_of program h k = old_place program (due program h k)

-- ---- what clauses are worth

-- the heap just before step c; where no step is named it is the heap of now
abbrev pub old_heap : Program → List Event → Option ℕ → Heap
old_heap program before None = heap_of (world_after program before)
old_heap program before (Some c) = heap_of (world_before program before c)

-- what a clause that is due at a moment is judged on
abbrev pub setting : Program → Moment → Due → Setting
setting program moment d = record {
  environment = d.environment;
  heap = heap_of (world_after program moment.before);
  old = old_heap program moment.before d.frame_call;
  owned = owns (world_after program moment.before) moment.guest;
  bound = [];
}

abbrev pub value_by_kind : Program → Moment → Due → Clause → ClauseKind → Verdict
value_by_kind program moment d clause Atomic =
    option_map_or (λ call. atomic_value moment.before moment.guest call (step_count moment.before)) d.frame_call Undefined
value_by_kind program moment d clause _ = clause_value (setting program moment d) clause

-- What a clause is worth at a moment. A number that no clause has is undefined: no program that passed the
-- checks has such a clause due.
abbrev pub clause_value_at : Program → Moment → Due → Verdict
clause_value_at program moment d = option_map_or (λ (clause : Clause). value_by_kind program moment d clause clause.kind) (clause_at program d.clause) Undefined

-- what the clause at a place of those due at step k is worth
abbrev pub value_of : Program → List Event → ℕ → ℕ → Option Verdict
value_of program h k place =
    option_and_then (λ moment. option_map (clause_value_at program moment) (slice_get (due_at program moment) place)) (moment_of h k)

-- ---- right verdicts

-- the places that were judged of those due at step k, in the order in which that was done
abbrev pub places_judged : List Event → ℕ → List ℕ
places_judged [] k = []
places_judged (Step g deed reply ∷ h) k = places_judged h k
places_judged (Wake g ∷ h) k = places_judged h k
places_judged (Judged step place value ∷ h) k = cond (step.0 == k) (place ∷ places_judged h k) (places_judged h k)

-- A verdict stands behind its step, has the value of that clause there, and comes after those of lower
-- places alone: so no place is judged twice.
pub record MayJudge (program : Program) (before : List Event) (step : Stamp) (place : ℕ) (value : Verdict) : Type 0 where
  pub worth : value_of program before step.0 place ≡ Some value
  pub in_order : All (λ earlier. earlier < place) (places_judged before step.0)

abbrev pub MayStand : Program → List Event → Event → Type 0
MayStand program before (Step g deed reply) = Unit {0}
MayStand program before (Wake g) = Unit {0}
MayStand program before (Judged step place value) = MayJudge program before step place value

-- each verdict is right
abbrev pub IsRight : Program → List Event → Type 0
IsRight program h = Each (MayStand program) h

-- the first verdict of a place of a step
abbrev pub verdict_of : List Event → ℕ → ℕ → Option Verdict
verdict_of [] k place = None
verdict_of (Step g deed reply ∷ h) k place = verdict_of h k place
verdict_of (Wake g ∷ h) k place = verdict_of h k place
verdict_of (Judged step other value ∷ h) k place =
    cond (step.0 == k) (cond (other == place) (Some value) (verdict_of h k place)) (verdict_of h k place)

-- each clause that is due at a step that was made has its verdict
abbrev pub OwesNothing : Program → List Event → Type 0
OwesNothing program h = (k place : ℕ) → place < length (due program h k) → IsSome (verdict_of h k place)

-- the places of the clauses due at step k that have no verdict, in order
abbrev pub owed_at : Program → List Event → ℕ → List ℕ
owed_at program h k = filter (λ place. not (is_some (verdict_of h k place))) (range_with_len 0 (length (due program h k)))

-- a clause that is due and has no verdict: its step, and its place among those due there
pub record Owed : Type 0 where
  pub step : ℕ
  pub place : ℕ

abbrev pub owed_of : Program → List Event → ℕ → List Owed
owed_of program h k = map (λ place. record { step = k; place = place }) (owed_at program h k)

-- all of them, in order of step and place
abbrev pub owed : Program → List Event → List Owed
owed program h = flat_map (owed_of program h) (range_with_len 0 (step_count h))

-- ---- a step with its verdicts

-- verdicts of these values on clauses due at a step, from a place on
abbrev pub judged_from : Stamp → ℕ → List Verdict → List Event
judged_from step place [] = []
judged_from step place (value ∷ values) = Judged step place value ∷ judged_from step (place + 1) values

-- what the clauses due at a moment are worth, in order of place
abbrev pub clause_values_at : Program → Moment → List Verdict
clause_values_at program moment = map (clause_value_at program moment) (due_at program moment)

-- the verdicts of a guest's next step: on each clause due, in order of place, with its value
abbrev pub verdicts_of : Program → List Event → GuestNo → Deed → List Event
verdicts_of program h g deed =
    judged_from (record { 0 = step_count h }) 0 (clause_values_at program (record { before = h; guest = g; deed = deed }))

-- a step, and its verdicts behind it
abbrev pub step_judged : Program → List Event → GuestNo → Deed → Reply → List Event
step_judged program h g deed reply = Step g deed reply ∷ verdicts_of program h g deed
