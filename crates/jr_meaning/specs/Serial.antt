-- The serial rule: one guest at a time makes one step, whose verdicts are given before the next. Where none can, one
-- that waits for some time only wakes. A guest may also wake after each so many steps, though nobody notified it.
use Rattle.std.specs.Prelude.{◌≡◌, ◌==◌, ◌+◌, ◌*◌, ◌/◌, ◌%◌, ◌^◌, ℕ, zero, suc, Bool, true, false, not, ◌&&◌, cond, nat_lt, List, [], ◌∷◌, ◌++◌, length, Option, Some, None}
use Rattle.std.specs.List.{filter, filter_map, find, list_any}
use Rattle.jr_base.specs.Deed.{Deed}
use Rattle.jr_base.specs.declared.number.GuestNo.{GuestNo}
use Rattle.jr_base.specs.declared.action.Reply.{Reply}
use Rattle.jr_base.specs.declared.action.Reply.TheVariants as replies
use Rattle.jr_base.specs.declared.finish.Finish.{Finish}
use Rattle.jr_base.specs.declared.finish.Finish.TheVariants.{Finished, Deadlock, Budget, Limit, Memory}
use Rattle.jr_program.specs.Programs.{Program}
use Rattle.jr_meaning.specs.Next.{Next, Wants, Ended}
use Rattle.jr_meaning.specs.Event.{Event, Wake}
use Rattle.jr_meaning.specs.World.{World, Guest, is_live, guests_of}
use Rattle.jr_meaning.specs.Machine.{is_ready, is_waiter, is_timed_waiter, Answer, Only, Wakes, answer}
use Rattle.jr_meaning.specs.Limits.{Count}
use Rattle.jr_meaning.specs.History.{world_after, step_count, next_of, limit_met}
use Rattle.jr_meaning.specs.Verdicts.{step_judged}
use Rattle.jr_meaning.specs.Right.{Run}

-- ---- choices

-- a choice moves a 64-bit state on
abbrev pub moved : ℕ → ℕ
moved x = (x * 6364136223846793005 + 1442695040888963407) % 2 ^ 64

-- the index of the choice among so many, which is at least one: by seed 0 the first
abbrev pub index_by : ℕ → ℕ → ℕ → ℕ
index_by seed x count = cond (seed == 0) 0 (x / 2 ^ 33 % count)

-- the member at that index, of a first and the rest; past the end the last
abbrev pub member : {A : Type 0} → A → List A → ℕ → A
member a rest zero = a
member a [] (suc i) = a
member a (b ∷ rest) (suc i) = member b rest i

abbrev pub chosen : {A : Type 0} → ℕ → ℕ → A → List A → A
chosen seed x a rest = member a rest (index_by seed x (length rest + 1))

-- ---- candidates

-- a guest, and its next action, which is ready
pub record Candidate : Type 0 where
  pub guest : GuestNo
  pub deed : Deed

abbrev pub if_ready : World → GuestNo → Next → Option Candidate
if_ready world g Ended = None
if_ready world g (Wants deed) = cond (is_ready world g deed) (Some (record { guest = g; deed = deed })) None

abbrev pub candidate_of : Program → List Event → GuestNo → Option Candidate
candidate_of program h g = cond (is_live (world_after program h) g) (if_ready (world_after program h) g (next_of program h g)) None

-- the guests that can step, in rising order
abbrev pub candidates : Program → List Event → List Candidate
candidates program h = filter_map (candidate_of program h) (guests_of (world_after program h))

-- the live guests that wait for some time only, in rising order
abbrev pub timed_waiters : World → List GuestNo
timed_waiters world = filter (λ g. is_live world g && is_timed_waiter world g) (guests_of world)

-- the guest with the lowest number that waits
abbrev pub first_waiter : World → Option GuestNo
first_waiter world = find (is_waiter world) (guests_of world)

abbrev pub some_live : World → Bool
some_live world = list_any (λ (guest : Guest). not guest.ended) world.guests

-- ---- a turn

-- the run ends, or entries come and the state moves on
pub data Turn : Type 0 where
  Ends : (finish : Finish) → Turn
  Makes : (entries : List Event) (x : ℕ) → Turn

abbrev pub wake_of : Option GuestNo → List Event
wake_of None = []
wake_of (Some g) = Wake g ∷ []

-- after each so many steps the first guest that waits wakes; with 0 none does
abbrev pub spurious_wake : Program → ℕ → List Event → List Event
spurious_wake program zero h = []
spurious_wake program (suc n) h = elim (step_count h % suc n == 0) [ true ↦ wake_of (first_waiter (world_after program h)) | false ↦ [] ]

-- a step with its verdicts, and the wake-up behind them, if there is one
abbrev pub step_entries : Program → ℕ → List Event → GuestNo → Deed → Reply → List Event
step_entries program spurious h g deed reply = step_judged program h g deed reply ++ spurious_wake program spurious (h ++ step_judged program h g deed reply)

-- the reply, and the state after it: a choice of the wait set is one more
abbrev pub replied : Program → ℕ → List Event → ℕ → ℕ → GuestNo → Deed → Answer → Turn
replied program spurious h seed x g deed (Only reply) = Makes (step_entries program spurious h g deed reply) x
replied program spurious h seed x g deed (Wakes first rest) =
    Makes (step_entries program spurious h g deed (replies.Woke (chosen seed (moved x) first rest))) (moved x)

abbrev pub unless_past : Program → ℕ → List Event → ℕ → ℕ → Candidate → Option Count → Turn
unless_past program spurious h seed x c (Some count) = Ends (Limit count.kind c.guest count.count)
unless_past program spurious h seed x c None = replied program spurious h seed x c.guest c.deed (answer program (world_after program h) c.guest c.deed)

abbrev pub steps_as : Program → ℕ → List Event → ℕ → ℕ → Candidate → Turn
steps_as program spurious h seed x c = unless_past program spurious h seed x c (limit_met program h c.guest c.deed)

-- where no guest can step, one that waits for some time only wakes
abbrev pub none_steps : ℕ → ℕ → Bool → List GuestNo → Turn
none_steps seed x live [] = Ends (cond live Deadlock Finished)
none_steps seed x live (first ∷ rest) = Makes (Wake (chosen seed (moved x) first rest) ∷ []) (moved x)

abbrev pub choose_of : Program → ℕ → ℕ → List Event → ℕ → ℕ → List Candidate → Turn
choose_of program budget spurious h seed x [] = none_steps seed x (some_live (world_after program h)) (timed_waiters (world_after program h))
choose_of program budget spurious h seed x (first ∷ rest) =
    elim (nat_lt (step_count h) budget) [ true ↦ steps_as program spurious h seed (moved x) (chosen seed (moved x) first rest) | false ↦ Ends (Budget budget) ]

abbrev pub turn : Program → ℕ → ℕ → List Event → ℕ → ℕ → Turn
turn program budget spurious h seed x = choose_of program budget spurious h seed x (candidates program h)

-- ---- a run

-- at most n turns more
abbrev pub serial_from : ℕ → Program → ℕ → ℕ → ℕ → List Event → ℕ → Run
serial_from zero program budget seed spurious h x = record { history = h; finish = Memory }
serial_from (suc n) program budget seed spurious h x =
    elim (turn program budget spurious h seed x) [
      | Ends finish ↦ record { history = h; finish = finish }
      | Makes entries x' ↦ serial_from n program budget seed spurious (h ++ entries) x'
    ]

-- The run of a program by the serial rule. Each turn but the last makes a step, or wakes one of at most 16 guests, so
-- that there are enough turns.
abbrev pub serial : Program → ℕ → ℕ → ℕ → Run
serial program budget seed spurious = serial_from (17 * (budget + 1)) program budget seed spurious [] seed

-- What a run by the serial rule has made where it is cut off for want of memory: the history of its first turns, each of
-- them whole.
pub record IsSerialPrefix (program : Program) (budget seed spurious : ℕ) (h : List Event) : Type 0 where
  pub turns : ℕ
  pub same : (serial_from turns program budget seed spurious [] seed).history ≡ h
