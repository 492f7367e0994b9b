-- What a run of one thread keeps between its turns.
use Rattle.std.specs.Prelude.{◌≡◌, ◌+◌, ◌≤◌, ◌++◌, ℕ, List, Some, None}
use Rattle.jr_base.specs.Deed.{Deed}
use Rattle.jr_base.specs.declared.action.Reply.{Reply}
use Rattle.jr_program.specs.Programs.{Program}
use Rattle.jr_meaning.specs.Event.{Event}
use Rattle.jr_meaning.specs.Machine.{Only, answer}
use Rattle.jr_meaning.specs.Frames.{frames_of}
use Rattle.jr_meaning.specs.History.{world_after, replies_of, step_count}
use Rattle.jr_meaning.specs.Verdicts.{step_judged}
use Rattle.jr_thread_machine.specs.Standing.{StandsFor}
use Rattle.jr_drive.specs.Reached.{first_guest, IsUnderWay}
use Rattle.jr_drive.specs.Stored.{Stored}
use Rattle.jr_drive.specs.declared.turn.SerialRun.{SerialRun}

-- It stands where that history leaves main's thread: its machine, its frames, the objects, and the number of steps.
pub record Keeps (program : Program) (h : List Event) (run : SerialRun) : Type 0 where
  pub machine : StandsFor program (Some (record { method = program.main; this = None })) (replies_of first_guest h) run.machine
  pub store : Stored program run.store (world_after program h)
  pub frames : run.frames ≡ frames_of h first_guest
  pub steps : run.steps ≡ step_count h

-- and it goes on from there
pub record GoesOn (program : Program) (budget : ℕ) (h : List Event) (run : SerialRun) : Type 0 where
  pub under_way : IsUnderWay program budget h
  pub keeps : Keeps program h run

-- it has made a step more than another, and no more than it may
pub record HasTurned (program : Program) (budget : ℕ) (h : List Event) (old new : SerialRun) : Type 0 where
  pub goes_on : GoesOn program budget h new
  pub one_more : new.steps ≡ old.steps + 1
  pub few : new.steps ≤ budget

-- that reply is the machine's, and the run stands behind the step
pub record Makes (program : Program) (h : List Event) (deed : Deed) (reply : Reply) (run : SerialRun) : Type 0 where
  pub answer : answer program (world_after program h) first_guest deed ≡ Only reply
  pub keeps : Keeps program (h ++ step_judged program h first_guest deed reply) run
