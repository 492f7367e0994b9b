-- Histories: what the entries of a journal say of the world, and which histories are legal.
use Rattle.std.specs.Prelude.{◌≡◌, ◌<◌, ℕ, cond, IsTrue, List, [], ◌∷◌, Option, None, sum_by, length}
use Rattle.std.specs.Option.{option_map_or}
use Rattle.jr_base.specs.Deed.{Deed}
use Rattle.jr_base.specs.declared.number.GuestNo.{GuestNo}
use Rattle.jr_base.specs.declared.action.Body.{Body}
use Rattle.jr_base.specs.declared.action.Reply.{Reply}
use Rattle.jr_meaning.specs.Along.{Each}
use Rattle.jr_meaning.specs.Event.{Event, Step, Judged, Wake}
use Rattle.jr_program.specs.Programs.{Program}
use Rattle.jr_meaning.specs.Next.{Next, Wants, next}
use Rattle.jr_meaning.specs.World.{World, Guest, start_world, same_guest, guest_at, is_live}
use Rattle.jr_meaning.specs.Machine.{is_ready, Answers, after, is_waiter, is_timed_waiter, wake}
use Rattle.jr_meaning.specs.Frames.{frames_of}
use Rattle.jr_meaning.specs.Limits.{Count, past_limit}

-- the world that entries lead to from another
abbrev pub world_from : Program → World → List Event → World
world_from program world [] = world
world_from program world (Step g deed reply ∷ h) = world_from program (after program world g deed reply) h
world_from program world (Judged step place value ∷ h) = world_from program world h
world_from program world (Wake g ∷ h) = world_from program (wake world g) h

-- the world after a history
abbrev pub world_after : Program → List Event → World
world_after program h = world_from program (start_world program) h

-- the replies that a guest has had, in order
abbrev pub replies_of : GuestNo → List Event → List Reply
replies_of g [] = []
replies_of g (Step other deed reply ∷ h) = cond (same_guest other g) (reply ∷ replies_of g h) (replies_of g h)
replies_of g (Judged step place value ∷ h) = replies_of g h
replies_of g (Wake woken ∷ h) = replies_of g h

-- how many steps an entry is
abbrev pub steps_in : Event → ℕ
steps_in (Step g deed reply) = 1
steps_in (Judged step place value) = 0
steps_in (Wake g) = 0

-- how many steps were made
abbrev pub step_count : List Event → ℕ
step_count h = sum_by steps_in h

-- what a guest was started with
abbrev pub body_of : World → GuestNo → Option Body
body_of world g = option_map_or (λ (guest : Guest). guest.body) (guest_at world g) None

-- a guest's next action after a history
abbrev pub next_of : Program → List Event → GuestNo → Next
next_of program h g = next program (body_of (world_after program h) g) (replies_of g h)

-- the first kind that a guest's step would bring past its limit after a history
abbrev pub limit_met : Program → List Event → GuestNo → Deed → Option Count
limit_met program h g deed = past_limit program (world_after program h) (length (frames_of h g)) g deed

-- That guest is live, the action is its next one, and it is ready.
pub record CanStep (program : Program) (h : List Event) (g : GuestNo) (deed : Deed) : Type 0 where
  pub live : IsTrue (is_live (world_after program h) g)
  pub next : next_of program h g ≡ Wants deed
  pub ready : IsTrue (is_ready (world_after program h) g deed)

-- A guest may make this step after that history: it can, the machine answers so, nothing that is counted
-- is brought past its limit, and fewer steps than the budget were made.
pub record MayStep (program : Program) (budget : ℕ) (before : List Event) (g : GuestNo) (deed : Deed) (reply : Reply) : Type 0 where
  pub can : CanStep program before g deed
  pub answer : Answers program (world_after program before) g deed reply
  pub within_limits : limit_met program before g deed ≡ None
  pub within_budget : step_count before < budget

-- A verdict changes nothing in the world. A guest that is in a wait set may wake at any time.
abbrev pub MayCome : Program → ℕ → List Event → Event → Type 0
MayCome program budget before (Step g deed reply) = MayStep program budget before g deed reply
MayCome program budget before (Judged step place value) = Unit {0}
MayCome program budget before (Wake g) = IsTrue (is_waiter (world_after program before) g)

-- each entry may come after those before it
abbrev pub IsLegal : Program → ℕ → List Event → Type 0
IsLegal program budget h = Each (MayCome program budget) h

-- a guest that wakes waited for some time only
abbrev pub MayTimeOut : Program → List Event → Event → Type 0
MayTimeOut program before (Step g deed reply) = Unit {0}
MayTimeOut program before (Judged step place value) = Unit {0}
MayTimeOut program before (Wake g) = IsTrue (is_timed_waiter (world_after program before) g)

-- each guest that wakes does
abbrev pub WakesAreTimed : Program → List Event → Type 0
WakesAreTimed program h = Each (MayTimeOut program) h
