-- The machine: which actions are ready, what they are answered, and what they change (JLS 14.19, 17.1, 17.2).
use Rattle.std.specs.Prelude.{◌≡◌, ◌-◌, ◌+◌, ◌&&◌, ℕ, suc, pos, Bool, true, false, not, cond, is_some, nat_lt, List, [], ◌∷◌, ◌++◌, map, length, Option, Some, None, IsTrue, slice_set}
use Rattle.std.specs.Option.{option_map_or, unwrap_or}
use Rattle.std.specs.List.{filter, find, list_any}
use Rattle.jr_base.specs.Deed.{Deed, Get, Put, New, Len, Enter, Exit, Wait, TimedWait, Resume, Notify, NotifyAll, Start, Join, End}
use Rattle.jr_base.specs.declared.number.ObjId.{ObjId}
use Rattle.jr_base.specs.declared.number.GuestNo.{GuestNo}
use Rattle.jr_base.specs.declared.action.NewKind.{NewKind}
use Rattle.jr_base.specs.declared.action.Reply.{Reply}
use Rattle.jr_base.specs.declared.action.Reply.TheVariants as replies
use Rattle.jr_base.specs.declared.value.Value.{Value}
use Rattle.jr_base.specs.declared.value.Value.TheVariants.{Int}
use Rattle.jr_base.specs.declared.value.Cell.{Cell}
use Rattle.jr_program.specs.Programs.{Program}
use Rattle.jr_meaning.specs.World.{World, Monitor, Hold, Waiter, Guest, Made, objects_of, same_object, same_guest, next_object, written, with_slots, slots_of, length_of, guest_at, guest_of, body_for}

-- ---- monitors

-- whether that guest is the owner
abbrev pub holds : GuestNo → Option Hold → Bool
holds g None = false
holds g (Some hold) = same_guest hold.guest g

-- whether that guest owns the object's monitor
abbrev pub owns : World → GuestNo → ObjId → Bool
owns world g object = holds g (world.monitors object).hold

abbrev pub is_among : GuestNo → List GuestNo → Bool
is_among g guests = list_any (same_guest g) guests

-- whether that guest is in a wait set
abbrev pub is_waiting : GuestNo → List Waiter → Bool
is_waiting g waiters = list_any (λ (w : Waiter). same_guest g w.guest) waiters

-- whether it is there for some time only
abbrev pub is_timed : GuestNo → List Waiter → Bool
is_timed g waiters = list_any (λ (w : Waiter). same_guest g w.guest && w.is_timed) waiters

-- whether that guest is in the object's wait set
abbrev pub waits : World → GuestNo → ObjId → Bool
waits world g object = is_waiting g (world.monitors object).waiting

-- the first object in whose wait set a guest is
abbrev pub waits_on : World → GuestNo → Option ObjId
waits_on world g = find (waits world g) (objects_of world)

-- whether a guest is in some wait set
abbrev pub is_waiter : World → GuestNo → Bool
is_waiter world g = is_some (waits_on world g)

-- whether it is in one for some time only
abbrev pub is_timed_waiter : World → GuestNo → Bool
is_timed_waiter world g = list_any (λ object. is_timed g (world.monitors object).waiting) (objects_of world)

-- the objects whose monitors a guest owns, in rising order
abbrev pub locks_of : World → GuestNo → List ObjId
locks_of world g = filter (owns world g) (objects_of world)

-- ---- ready

-- nobody owns the monitor, or that guest does
abbrev pub may_enter : GuestNo → Option Hold → Bool
may_enter g None = true
may_enter g (Some hold) = same_guest hold.guest g

-- the guest has waited, was woken, and nobody owns the monitor
abbrev pub may_resume : GuestNo → Monitor → Bool
may_resume g monitor = is_some (monitor.kept g) && not (is_waiting g monitor.waiting) && not (is_some monitor.hold)

-- the Thread object was never started, or its guest has ended
abbrev pub may_join : World → ObjId → Bool
may_join world object = option_map_or (λ (guest : Guest). guest.ended) (guest_of world object) true

-- whether a guest's action may be made now
abbrev pub is_ready : World → GuestNo → Deed → Bool
is_ready world g (Enter object way) = may_enter g (world.monitors object).hold
is_ready world g (Resume object) = may_resume g (world.monitors object)
is_ready world g (Join object) = may_join world object
is_ready world g _ = true

-- ---- answers

-- what the machine may answer: that reply alone, or that one of some guests was woken
pub data Answer : Type 0 where
  Only : (reply : Reply) → Answer
  Wakes : (first : GuestNo) (rest : List GuestNo) → Answer

-- a read: the cell's value, or Range where the array has no such element
abbrev pub get_reply : Option Value → Reply
get_reply (Some value) = replies.Value value
get_reply None = replies.Range

abbrev pub put_reply : Option Value → Reply
put_reply (Some value) = replies.Unit
put_reply None = replies.Range

-- an array's length; nothing else is asked for it
abbrev pub len_reply : Option ℕ → Reply
len_reply n = replies.Value (Int (pos (unwrap_or n 0)))

-- only the owner may wait and notify (JLS 17.2)
abbrev pub owner_reply : Bool → Reply
owner_reply owner = cond owner replies.Unit replies.Illegal

-- some guest of the wait set is woken, if there is one (JLS 17.2.2)
abbrev pub notify_answer : Bool → List Waiter → Answer
notify_answer false waiters = Only replies.Illegal
notify_answer true [] = Only replies.Nobody
notify_answer true (w ∷ waiters) = Wakes w.guest (map (λ (w : Waiter). w.guest) waiters)

-- the next guest, unless the object was started before
abbrev pub start_reply : Program → World → ObjId → Reply
start_reply program world object =
    cond (is_some (guest_of world object)) replies.Illegal (replies.Started (record { 0 = length world.guests + 1 }) (body_for program world object))

-- what a guest's action is answered where it is ready
abbrev pub answer : Program → World → GuestNo → Deed → Answer
answer program world g (Get cell) = Only (get_reply (world.cells cell))
answer program world g (Put cell value) = Only (put_reply (world.cells cell))
answer program world g (New kind) = Only (replies.Made (next_object world))
answer program world g (Len object) = Only (len_reply (length_of world object))
answer program world g (Wait object) = Only (owner_reply (owns world g object))
answer program world g (TimedWait object) = Only (owner_reply (owns world g object))
answer program world g (Notify object) = notify_answer (owns world g object) (world.monitors object).waiting
answer program world g (NotifyAll object) = Only (owner_reply (owns world g object))
answer program world g (Start object) = Only (start_reply program world object)
answer program world g _ = Only replies.Unit

-- the reply is one that the answer allows
abbrev pub Allows : Answer → Reply → Type 0
Allows (Only only) reply = reply ≡ only
Allows (Wakes first rest) reply = (g : GuestNo) × (reply ≡ replies.Woke g) × IsTrue (is_among g (first ∷ rest))

-- what the machine may reply to an action that is ready
abbrev pub Answers : Program → World → GuestNo → Deed → Reply → Type 0
Answers program world g deed reply = Allows (answer program world g deed) reply

-- ---- effects

-- a write to a cell that is there changes it
abbrev pub put : World → Cell → Value → Reply → World
put world cell value replies.Unit = record world { cells = written world.cells cell value }
put world cell value _ = world

-- an object more, with its cells as they are at first
abbrev pub make : Program → World → NewKind → Reply → World
make program world kind (replies.Made object) =
    record world { cells = with_slots world.cells object (slots_of program kind); objects = world.objects ++ Made kind ∷ [] }
make program world kind _ = world

abbrev pub with_monitor : World → ObjId → Monitor → World
with_monitor world object monitor = record world { monitors = λ o. cond (same_object o object) monitor (world.monitors o) }

-- the guest owns the monitor once more
abbrev pub entered : GuestNo → Option Hold → Option Hold
entered g None = Some (record { guest = g; depth = 1 })
entered g (Some hold) = Some (record { guest = g; depth = hold.depth + 1 })

-- the owner has it once less; at none there is no owner
abbrev pub one_less : GuestNo → ℕ → Option Hold
one_less g (suc (suc d)) = Some (record { guest = g; depth = suc d })
one_less g _ = None

abbrev pub exited : GuestNo → Option Hold → Option Hold
exited g None = None
exited g (Some hold) = cond (same_guest hold.guest g) (one_less g hold.depth) (Some hold)

abbrev pub enter : World → GuestNo → ObjId → Monitor → World
enter world g object monitor = with_monitor world object (record monitor { hold = entered g monitor.hold })

abbrev pub exit : World → GuestNo → ObjId → Monitor → World
exit world g object monitor = with_monitor world object (record monitor { hold = exited g monitor.hold })

-- a waiter more, in rising order
abbrev pub with_waiter : Waiter → List Waiter → List Waiter
with_waiter w [] = w ∷ []
with_waiter w (other ∷ waiters) = cond (nat_lt w.guest.0 other.guest.0) (w ∷ other ∷ waiters) (other ∷ with_waiter w waiters)

abbrev pub without_guest : GuestNo → List Waiter → List Waiter
without_guest g waiters = filter (λ (w : Waiter). not (same_guest g w.guest)) waiters

-- what each guest keeps, with that guest's depth given anew
abbrev pub keeping : (GuestNo → Option ℕ) → GuestNo → Option ℕ → GuestNo → Option ℕ
keeping kept g depth other = cond (same_guest other g) depth (kept other)

-- the owner gives the monitor up and is in the wait set (JLS 17.2.1)
abbrev pub wait : World → Waiter → ObjId → Monitor → Option Hold → Reply → World
wait world w object monitor (Some hold) replies.Unit =
    with_monitor world object (record { hold = None; waiting = with_waiter w monitor.waiting; kept = keeping monitor.kept w.guest (Some hold.depth) })
wait world w object monitor hold _ = world

-- the guest owns the monitor again, as often as before it waited
abbrev pub resume : World → GuestNo → ObjId → Monitor → Option ℕ → World
resume world g object monitor None = world
resume world g object monitor (Some depth) =
    with_monitor world object (record monitor { hold = Some (record { guest = g; depth = depth }); kept = keeping monitor.kept g None })

-- one guest, or all, are no longer in the wait set
abbrev pub notify : World → ObjId → Monitor → Reply → World
notify world object monitor (replies.Woke g) = with_monitor world object (record monitor { waiting = without_guest g monitor.waiting })
notify world object monitor _ = world

abbrev pub notify_all : World → ObjId → Monitor → Reply → World
notify_all world object monitor replies.Unit = with_monitor world object (record monitor { waiting = [] })
notify_all world object monitor _ = world

-- a guest more
abbrev pub start : World → ObjId → Reply → World
start world object (replies.Started g body) = record world { guests = world.guests ++ record { object = Some object; body = body; ended = false } ∷ [] }
start world object _ = world

abbrev pub mark_ended : World → GuestNo → Option Guest → World
mark_ended world g None = world
mark_ended world g (Some guest) = record world { guests = slice_set world.guests (g.0 - 1) (record guest { ended = true }) }

-- the world after a guest's action and the machine's reply: what isn't named stays
abbrev pub after : Program → World → GuestNo → Deed → Reply → World
after program world g (Put cell value) reply = put world cell value reply
after program world g (New kind) reply = make program world kind reply
after program world g (Enter object way) reply = enter world g object (world.monitors object)
after program world g (Exit object) reply = exit world g object (world.monitors object)
after program world g (Wait object) reply =
    wait world (record { guest = g; is_timed = false }) object (world.monitors object) (world.monitors object).hold reply
after program world g (TimedWait object) reply =
    wait world (record { guest = g; is_timed = true }) object (world.monitors object) (world.monitors object).hold reply
after program world g (Resume object) reply = resume world g object (world.monitors object) ((world.monitors object).kept g)
after program world g (Notify object) reply = notify world object (world.monitors object) reply
after program world g (NotifyAll object) reply = notify_all world object (world.monitors object) reply
after program world g (Start object) reply = start world object reply
after program world g (End how) reply = mark_ended world g (guest_at world g)
after program world g _ reply = world

-- ---- without a notification

-- a guest leaves the wait set that it is in, whichever that is, and keeps its depth for its Resume (JLS 17.2.1)
abbrev pub wake : World → GuestNo → World
wake world g = record world { monitors = λ o. record (world.monitors o) { waiting = without_guest g (world.monitors o).waiting } }
