-- What a run of one thread keeps, turn by turn.
use Rattle.std.proofs.Common.{◌≡◌, ◌+◌, ◌++◌, ◌≤◌, ℕ, Bool, true, false, cond, MatchOption, List, [], ◌∷◌, Option, Some, None, refl, sym, ap, subst, ◌∙◌}
use Rattle.jr_base.specs.Deed.{Deed}
use Rattle.jr_base.specs.declared.action.Body.{Body}
use Rattle.jr_base.specs.declared.action.Reply.{Reply}
use Rattle.jr_base.specs.declared.finish.Finish.{Finish}
use Rattle.jr_base.specs.declared.finish.Finish.TheVariants.{Finished}
use Rattle.jr_program.specs.Programs.{Program}
use Rattle.jr_meaning.specs.Next.{next}
use Rattle.jr_meaning.specs.Event.{Event}
use Rattle.jr_meaning.specs.World.{World}
use Rattle.jr_meaning.specs.Machine.{after}
use Rattle.jr_meaning.specs.Frames.{frames_after}
use Rattle.jr_meaning.specs.History.{world_after, replies_of, step_count, body_of, next_of}
use Rattle.jr_meaning.specs.Verdicts.{step_judged}
use Rattle.jr_built.specs.OneThread.{HasOneThread}
use Rattle.jr_thread_machine.specs.Standing.{StandsFor, RunsThreadOf}
use Rattle.jr_drive.specs.Reached.{first_guest, IsUnderWay, is_end, RunsTo}
use Rattle.jr_drive.specs.Stored.{Stored}
use Rattle.jr_drive.specs.Runs.{Keeps, HasTurned}
use Rattle.jr_drive.specs.declared.turn.SerialRun.{SerialRun}
use Rattle.jr_drive.proofs.Steps.{step-more, world-more, reply-more, frames-more}

abbrev pub main_of : Program → Option Body
main_of program = Some (record { method = program.main; this = None })

pub runs-thread : (program : Program) (h : List Event) (run : SerialRun) → Keeps program h run → RunsThreadOf program run.machine
runs-thread program h run keeps = record { start = main_of program; replies = replies_of first_guest h; stands = keeps.machine }

-- what main's thread does next, by its machine
pub next-same : (program : Program) (h : List Event) → HasOneThread program (world_after program h) →
    next_of program h first_guest ≡ next program (main_of program) (replies_of first_guest h)
next-same program h one = ap (λ gs. next program (body_of (record (world_after program h) { guests = gs }) first_guest) (replies_of first_guest h)) one.guests

-- what is kept behind a step
pub keeps-more : (program : Program) (h : List Event) (deed : Deed) (reply : Reply) (old new : SerialRun) → Keeps program h old →
    StandsFor program (main_of program) (replies_of first_guest h ++ reply ∷ []) new.machine →
    Stored program new.store (after program (world_after program h) first_guest deed reply) →
    new.frames ≡ frames_after old.steps old.frames deed → new.steps ≡ old.steps + 1 →
    Keeps program (h ++ step_judged program h first_guest deed reply) new
keeps-more program h deed reply old new keeps machine store frames steps = record {
  machine = subst (λ rs. StandsFor program (main_of program) rs new.machine) (sym (reply-more program h first_guest deed reply)) machine;
  store = subst (Stored program new.store) (sym (world-more program h first_guest deed reply)) store;
  frames = frames ∙ ap (λ k. frames_after k old.frames deed) keeps.steps ∙ ap (λ fs. frames_after (step_count h) fs deed) keeps.frames
      ∙ sym (frames-more program h first_guest deed reply);
  steps = steps ∙ ap (λ k. k + 1) keeps.steps ∙ sym (step-more program h first_guest deed reply);
}

-- a turn's answer behind a step
pub turn-of : (program : Program) (budget : ℕ) (later : List Event) (old new : SerialRun) (deed : Deed) (finish : Option Finish) → finish ≡ cond (is_end deed) (Some Finished) None →
    (is_end deed ≡ false → IsUnderWay program budget later) → (is_end deed ≡ true → RunsTo program budget later Finished) →
    Keeps program later new → step_count later ≤ budget → new.steps ≡ old.steps + 1 → MatchOption finish (HasTurned program budget later old new) (RunsTo program budget later)
turn-of program budget later old new deed finish is goes ends keeps few one = by (is_end deed) is goes ends
  where
    by : (b : Bool) → finish ≡ cond b (Some Finished) None → (b ≡ false → IsUnderWay program budget later) → (b ≡ true → RunsTo program budget later Finished) →
        MatchOption finish (HasTurned program budget later old new) (RunsTo program budget later)
    by true is goes ends = subst (λ f. MatchOption f (HasTurned program budget later old new) (RunsTo program budget later)) (sym is) (ends refl)
    by false is goes ends = subst (λ f. MatchOption f (HasTurned program budget later old new) (RunsTo program budget later)) (sym is) (record {
      goes_on = record { under_way = goes refl; keeps = keeps };
      one_more = one;
      few = subst (λ k. k ≤ budget) (sym keeps.steps) few;
    })
