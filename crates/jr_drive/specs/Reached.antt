-- Where a run of one thread by the serial rule stands between two turns, and what it is once it has ended.
use Rattle.std.specs.Prelude.{◌≡◌, ◌+◌, ℕ, Bool, true, false, IsTrue, List, []}
use Rattle.jr_base.specs.Deed.{Deed, End}
use Rattle.jr_base.specs.declared.number.GuestNo.{GuestNo}
use Rattle.jr_base.specs.declared.finish.Finish.{Finish}
use Rattle.jr_program.specs.Programs.{Program}
use Rattle.jr_meaning.specs.Next.{Wants}
use Rattle.jr_meaning.specs.Event.{Event}
use Rattle.jr_meaning.specs.World.{is_live}
use Rattle.jr_meaning.specs.History.{world_after, step_count, next_of}
use Rattle.jr_meaning.specs.Serial.{serial_from, serial, IsSerialPrefix}

-- main's thread
abbrev pub first_guest : GuestNo
first_guest = record { 0 = 1 }

-- Each turn has made one step. Whatever the seed, a run of so many turns more goes on from that history.
abbrev pub HasReached : Program → ℕ → List Event → Type 0
HasReached program budget h =
    (seed : ℕ) → (x : ℕ) × ((more : ℕ) → serial_from (step_count h + more) program budget seed 0 [] seed ≡ serial_from more program budget seed 0 h x)

-- it has come to that history, and main's thread is live
pub record IsUnderWay (program : Program) (budget : ℕ) (h : List Event) : Type 0 where
  pub reached : HasReached program budget h
  pub live : IsTrue (is_live (world_after program h) first_guest)

-- that is what the thread does next
pub record IsNext (program : Program) (budget : ℕ) (h : List Event) (deed : Deed) : Type 0 where
  pub under_way : IsUnderWay program budget h
  pub wants : next_of program h first_guest ≡ Wants deed

-- what a thread does last
abbrev pub is_end : Deed → Bool
is_end (End how) = true
is_end _ = false

-- the run has that history and that finish, whatever the seed
abbrev pub RunsTo : Program → ℕ → List Event → Finish → Type 0
RunsTo program budget h finish = (seed : ℕ) → record { history = h; finish = finish } ≡ serial program budget seed 0

-- it is cut off behind that history, for want of memory
abbrev pub IsCutOff : Program → ℕ → List Event → Type 0
IsCutOff program budget h = (seed : ℕ) → IsSerialPrefix program budget seed 0 h
