-- What is kept of the monitors and of the threads of a run, and the world that it shows.
use Rattle.std.specs.Prelude.{◌≡◌, ◌≢◌, ◌<◌, ◌↔◌, ◌++◌, ◌-◌, ◌&&◌, ℕ, suc, Bool, true, false, not, cond, nat_eq, slice_set, IsTrue, IsSome, Contains, List, [], ◌∷◌, length, map, Option, Some, None, option_to_list, option_map}
use Rattle.std.specs.Option.{option_map_or, unwrap_or}
use Rattle.std.specs.Map.{lookup}
use Rattle.jr_base.specs.Deed.{Deed, Enter, Resume, Join, Start}
use Rattle.jr_base.specs.declared.number.ObjId.{ObjId}
use Rattle.jr_base.specs.declared.number.GuestNo.{GuestNo}
use Rattle.jr_base.specs.declared.finish.LimitKind.TheVariants.{Guests, Held}
use Rattle.jr_program.specs.Programs.{numbered}
use Rattle.jr_meaning.specs.World.{World, Monitor, Hold, Waiter, Guest, same_object, runs_object, guest_of}
use Rattle.jr_meaning.specs.Machine.{holds}
use Rattle.jr_meaning.specs.Limits.{limit_of}
use Rattle.jr_monitors.specs.declared.member.Owner.{Owner}
use Rattle.jr_monitors.specs.declared.member.Member.{Member}
use Rattle.jr_monitors.specs.declared.member.Stay.{Stay}
use Rattle.jr_monitors.specs.declared.member.Stage.{Stage}
use Rattle.jr_monitors.specs.declared.member.Stage.TheVariants.{Waits, WaitsForTime, Woken}
use Rattle.jr_monitors.specs.declared.member.Parked.{Parked}
use Rattle.jr_monitors.specs.declared.member.Parked.TheVariants as parked

-- The owners of the monitors that are owned, by object number; the objects whose monitors each guest owns; and how
-- many monitors more may be owned.
pub record Owned : Type 0 where
  pub owners : List (ℕ × Owner)
  pub locks : List (List ObjId)
  pub spare : ℕ

-- what is owned, and the guests that were started, number 1 first
pub record Roster : Type 0 where
  pub owned : Owned
  pub members : List Member

-- ---- the world that it shows

abbrev pub hold_by : Option Owner → Option Hold
hold_by None = None
hold_by (Some owner) = Some (record { guest = owner.guest; depth = owner.depth })

abbrev pub owner_in : List (ℕ × Owner) → ObjId → Option Owner
owner_in owners object = lookup (nat_eq object.0) owners

abbrev pub hold_in : List (ℕ × Owner) → ObjId → Option Hold
hold_in owners object = hold_by (owner_in owners object)

abbrev pub is_in_set : Stage → Bool
is_in_set Waits = true
is_in_set WaitsForTime = true
is_in_set Woken = false

-- a guest in a wait set, if it still is
abbrev pub waiter_at : GuestNo → Stage → Option Waiter
waiter_at g Waits = Some (record { guest = g; is_timed = false })
waiter_at g WaitsForTime = Some (record { guest = g; is_timed = true })
waiter_at g Woken = None

-- a guest in that object's wait set, if it is
abbrev pub waiter_of : ObjId → GuestNo → Option Stay → Option Waiter
waiter_of object g None = None
waiter_of object g (Some stay) = cond (same_object stay.object object) (waiter_at g stay.stage) None

-- the wait set of an object, of guests from that number on
abbrev pub waiters_from : ℕ → ObjId → List Member → List Waiter
waiters_from n object [] = []
waiters_from n object (member ∷ members) = option_to_list (waiter_of object (record { 0 = n }) member.stay) ++ waiters_from (suc n) object members

-- the stay is in a wait set for some time only
abbrev pub is_for_time : Stage → Bool
is_for_time Waits = false
is_for_time WaitsForTime = true
is_for_time Woken = false

abbrev pub is_timed_stay : Option Stay → Bool
is_timed_stay None = false
is_timed_stay (Some stay) = is_for_time stay.stage

-- the object in whose wait set a guest is, if it is in one
abbrev pub waits_for : Option Stay → Option ObjId
waits_for None = None
waits_for (Some stay) = cond (is_in_set stay.stage) (Some stay.object) None

-- the stay is for that object, and out of its wait set
abbrev pub is_woken_on : ObjId → Option Stay → Bool
is_woken_on object None = false
is_woken_on object (Some stay) = same_object stay.object object && not (is_in_set stay.stage)

-- the depth that is kept for that object
abbrev pub depth_for : ObjId → Option Stay → Option ℕ
depth_for object None = None
depth_for object (Some stay) = cond (same_object stay.object object) (Some stay.depth) None

abbrev pub kept_in : List Member → ObjId → GuestNo → Option ℕ
kept_in members object g = option_map_or (λ (member : Member). depth_for object member.stay) (numbered members g.0) None

abbrev pub monitor_in : Roster → ObjId → Monitor
monitor_in roster object = record { hold = hold_in roster.owned.owners object; waiting = waiters_from 1 object roster.members; kept = kept_in roster.members object }

abbrev pub guest_as : Member → Guest
guest_as member = record { object = member.object; body = None; ended = member.ended }

-- The world as far as it is known here: its monitors, and its guests but for what they run.
abbrev pub world_of : Roster → World
world_of roster = record { cells = λ cell. None; objects = []; monitors = monitor_in roster; guests = map guest_as roster.members }

-- ---- what a guest is parked at, and what it owns

abbrev pub deed_at : Parked → Deed
deed_at (parked.Enter object way) = Enter object way
deed_at (parked.Resume object) = Resume object
deed_at (parked.Join object) = Join object

-- what a guest may be parked at: all other actions are always ready
abbrev pub parkable : Deed → Option Deed
parkable (Enter object way) = Some (Enter object way)
parkable (Resume object) = Some (Resume object)
parkable (Join object) = Some (Join object)
parkable _ = None

abbrev pub parked_in : List Member → GuestNo → Option Deed
parked_in members g = option_map_or (λ (member : Member). option_map deed_at member.parked) (numbered members g.0) None

-- the action at which a guest is parked, if it is
abbrev pub parked_of : Roster → GuestNo → Option Deed
parked_of roster g = parked_in roster.members g

abbrev pub locks_at : List (List ObjId) → GuestNo → List ObjId
locks_at locks g = unwrap_or (numbered locks g.0) []

-- the objects whose monitors a guest owns
abbrev pub locks_in : Roster → GuestNo → List ObjId
locks_in roster g = locks_at roster.owned.locks g

-- ---- what a step may not go past

-- a monitor that has no owner is one more for the guest, and the owner enters once more
abbrev pub MayEnter : List ObjId → Option Hold → Type 0
MayEnter locks None = length locks < limit_of Held
MayEnter locks (Some hold) = hold.depth < 4294967295

abbrev pub MayStart : ℕ → Option Guest → Type 0
MayStart count None = count < limit_of Guests
MayStart count (Some guest) = Unit {0}

-- There are at most 16 guests after a guest's step, none of them owns more than 64 different monitors, and none owns
-- one more than 2 ^ 32 - 1 times.
abbrev pub Fits : Roster → GuestNo → Deed → Type 0
Fits roster g (Enter object way) = MayEnter (locks_in roster g) (hold_in roster.owned.owners object)
Fits roster g (Resume object) = length (locks_in roster g) < limit_of Held
Fits roster g (Start object) = MayStart (length roster.members) (guest_of (world_of roster) object)
Fits roster g _ = Unit {0}

-- A guest that keeps a depth takes its monitor back before it does anything else.
abbrev pub IsAwakeFor : World → GuestNo → Deed → Type 0
IsAwakeFor world g deed = (object : ObjId) → IsSome ((world.monitors object).kept g) → deed ≡ Resume object

-- ---- what changes

-- the monitor has that owner, or none, and each other one is as before
abbrev pub Owns : List (ℕ × Owner) → ObjId → Option Owner → List (ℕ × Owner) → Type 0
Owns old object owner new = (other : ObjId) → owner_in new other ≡ cond (same_object other object) owner (owner_in old other)

-- the same objects but for one
abbrev pub Without : List ObjId → ObjId → List ObjId → Type 0
Without old object new = (other : ObjId) → Contains new other ↔ ((other ≢ object) × Contains old other)

-- that guest owns the monitor so often, or doesn't
abbrev pub Owning : GuestNo → Option Owner → Option ℕ → Type 0
Owning g owner None = holds g (hold_by owner) ≡ false
Owning g owner (Some depth) = owner ≡ Some (record { guest = g; depth = depth })

-- that guest's stay is so, and all else of it and the others is as before
abbrev pub Stays : List Member → GuestNo → Option Stay → List Member → Type 0
Stays old g stay new = (member : Member) → numbered old g.0 ≡ Some member → new ≡ slice_set old (g.0 - 1) (record member { stay = stay })

-- a guest that is in the wait set of that object, or in any, leaves it
abbrev pub woken : Stay → Stay
woken stay = record stay { stage = Woken }

abbrev pub woken_on : ObjId → Member → Member
woken_on object member = record member { stay = option_map (λ (stay : Stay). cond (same_object stay.object object) (woken stay) stay) member.stay }

abbrev pub is_run_of : ObjId → Member → Bool
is_run_of object member = runs_object object (guest_as member)

-- ---- what is kept fits together

-- the locks of each of 16 guests are the objects whose monitors it owns
pub record AreLocks (owners : List (ℕ × Owner)) (locks : List (List ObjId)) : Type 0 where
  pub count : length locks ≡ 16
  pub owned : (g : GuestNo) (object : ObjId) → Contains (locks_at locks g) object ↔ IsTrue (holds g (hold_in owners object))

-- a guest that keeps a depth for a monitor doesn't own it
abbrev pub AreApart : List (ℕ × Owner) → List Member → Type 0
AreApart owners members = (g : GuestNo) (object : ObjId) → IsSome (kept_in members object g) → holds g (hold_in owners object) ≡ false
