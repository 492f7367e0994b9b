-- How a run ended, truly.
use Rattle.std.specs.Prelude.{◌≡◌, ◌≢◌, ◌⊎◌, ◌<◌, ℕ, IsTrue, All, List, Some}
use Rattle.jr_base.specs.Deed.{Deed}
use Rattle.jr_base.specs.declared.number.GuestNo.{GuestNo}
use Rattle.jr_base.specs.declared.action.Reply.{Reply}
use Rattle.jr_base.specs.declared.finish.LimitKind.{LimitKind}
use Rattle.jr_base.specs.declared.finish.Finish.{Finish}
use Rattle.jr_base.specs.declared.finish.Finish.TheVariants.{Finished, Deadlock, Budget, Limit, Memory}
use Rattle.jr_meaning.specs.Event.{Event}
use Rattle.jr_program.specs.Programs.{Program}
use Rattle.jr_meaning.specs.World.{Guest, is_live}
use Rattle.jr_meaning.specs.Machine.{is_timed_waiter}
use Rattle.jr_meaning.specs.History.{world_after, step_count, CanStep, MayStep, limit_met}

-- some guest is live, and its next action is ready
abbrev pub SomeCanStep : Program → List Event → Type 0
SomeCanStep program h = (g : GuestNo) × (deed : Deed) × CanStep program h g deed

-- some live guest waits for some time only
abbrev pub SomeTimedWaiter : Program → List Event → Type 0
SomeTimedWaiter program h = (g : GuestNo) × IsTrue (is_live (world_after program h) g) × IsTrue (is_timed_waiter (world_after program h) g)

-- that guest's next action is ready, and would bring the kind to the count, past its limit
pub record MeetsLimit (program : Program) (h : List Event) (kind : LimitKind) (g : GuestNo) (count : ℕ) : Type 0 where
  pub deed : Deed
  pub can : CanStep program h g deed
  pub past : limit_met program h g deed ≡ Some (record { kind = kind; count = count })

-- Finished: each guest that was started has ended. Deadlock: some guest is live, none can step, and none waits for
-- some time only. Budget: as many steps as allowed were made, and some guest can step. Limit: fewer were made, and
-- that guest's step would bring the kind past its limit. Memory may always end a run.
abbrev pub IsTrueFinish : Program → ℕ → List Event → Finish → Type 0
IsTrueFinish program budget h Finished = All (λ (guest : Guest). IsTrue guest.ended) (world_after program h).guests
IsTrueFinish program budget h Deadlock =
    ((g : GuestNo) × IsTrue (is_live (world_after program h) g)) × (SomeCanStep program h → ⊥) × (SomeTimedWaiter program h → ⊥)
IsTrueFinish program budget h (Budget n) = (n ≡ budget) × (step_count h ≡ n) × SomeCanStep program h
IsTrueFinish program budget h (Limit kind guest count) = (step_count h < budget) × MeetsLimit program h kind guest count
IsTrueFinish program budget h Memory = Unit {0}

-- the kinds of finish
pub data FinishKind : Type 0 where
  ByEnd ByDeadlock ByBudget ByLimit ByMemory : FinishKind

abbrev pub kind_of_finish : Finish → FinishKind
kind_of_finish Finished = ByEnd
kind_of_finish Deadlock = ByDeadlock
kind_of_finish (Budget n) = ByBudget
kind_of_finish (Limit kind guest count) = ByLimit
kind_of_finish Memory = ByMemory

-- some guest may make a step, or waits for some time only and may wake, or the history has a true finish, want of
-- memory left aside
abbrev pub GoesOnOrEnds : Program → ℕ → List Event → Type 0
GoesOnOrEnds program budget h =
    ((g : GuestNo) × (deed : Deed) × (reply : Reply) × MayStep program budget h g deed reply)
    ⊎ SomeTimedWaiter program h ⊎ ((end : Finish) × IsTrueFinish program budget h end × (end ≢ Memory))
