-- How many guests a history has started.
use Rattle.std.proofs.Common.{◌≡◌, ◌+◌, ◌-◌, List, [], ◌∷◌, Option, Some, None, length, sum_by, refl, ap, arith, length-append, length-set}
use Rattle.std.proofs.lemmas.List.Sums.{sum_by-cons}
use Rattle.jr_base.specs.Deed.{Deed, Put, New, Enter, Exit, Wait, TimedWait, Resume, Notify, NotifyAll, Start, End}
use Rattle.jr_base.specs.declared.number.GuestNo.{GuestNo}
use Rattle.jr_base.specs.declared.number.ObjId.{ObjId}
use Rattle.jr_base.specs.declared.action.Reply.{Reply}
use Rattle.jr_base.specs.declared.action.Reply.TheVariants as replies
use Rattle.jr_program.specs.Programs.{Program}
use Rattle.jr_meaning.specs.Event.{Event, Step, Judged, Wake}
use Rattle.jr_meaning.specs.World.{World, Guest, guest_at, start_world}
use Rattle.jr_meaning.specs.Machine.{after, mark_ended, start, wake}
use Rattle.jr_meaning.specs.History.{world_from, world_after}
use Rattle.jr_meaning.proofs.Guests.{put-guests, make-guests, wait-guests, resume-guests, notify-guests, notify-all-guests}
use Rattle.jr_report.specs.Started.{starts_in}

start-guests : (world : World) (g : GuestNo) (object : ObjId) (reply : Reply) → length (start world object reply).guests ≡ length world.guests + starts_in (Step g (Start object) reply)
start-guests world g object (replies.Started n body) = length-append world.guests _
start-guests world g object replies.Unit = omega arith
start-guests world g object (replies.Value value) = omega arith
start-guests world g object (replies.Made made) = omega arith
start-guests world g object replies.Range = omega arith
start-guests world g object replies.Illegal = omega arith
start-guests world g object replies.Nobody = omega arith
start-guests world g object (replies.Woke n) = omega arith

marked-guests : (world : World) (g : GuestNo) (guest : Option Guest) → length (mark_ended world g guest).guests ≡ length world.guests
marked-guests world g None = refl
marked-guests world g (Some guest) = length-set world.guests (g.0 - 1) _

none-more : (old new : List Guest) → new ≡ old → length new ≡ length old + 0
none-more old new same = let e = ap length same in omega (arith, e)

-- a step starts a guest or doesn't
step-guests : (program : Program) (world : World) (g : GuestNo) (deed : Deed) (reply : Reply) →
    length (after program world g deed reply).guests ≡ length world.guests + starts_in (Step g deed reply)
step-guests program world g (Put cell value) reply = none-more _ _ (put-guests world cell value reply)
step-guests program world g (New kind) reply = none-more _ _ (make-guests program world kind reply)
step-guests program world g (Enter object way) reply = none-more world.guests world.guests refl
step-guests program world g (Exit object) reply = none-more world.guests world.guests refl
step-guests program world g (Wait object) reply = none-more _ _ (wait-guests world _ object (world.monitors object) (world.monitors object).hold reply)
step-guests program world g (TimedWait object) reply = none-more _ _ (wait-guests world _ object (world.monitors object) (world.monitors object).hold reply)
step-guests program world g (Resume object) reply = none-more _ _ (resume-guests world g object (world.monitors object) ((world.monitors object).kept g))
step-guests program world g (Notify object) reply = none-more _ _ (notify-guests world object (world.monitors object) reply)
step-guests program world g (NotifyAll object) reply = none-more _ _ (notify-all-guests world object (world.monitors object) reply)
step-guests program world g (Start object) reply = start-guests world g object reply
step-guests program world g (End how) reply = let e = marked-guests world g (guest_at world g) in omega (arith, e)
step-guests program world g _ reply = none-more world.guests world.guests refl

from-guests : (program : Program) (world : World) (h : List Event) → length (world_from program world h).guests ≡ length world.guests + sum_by starts_in h
from-guests program world [] = omega arith
from-guests program world (Step g deed reply ∷ h) =
    let rest = from-guests program (after program world g deed reply) h in
    let here = step-guests program world g deed reply in
    omega (arith, rest, here, sum_by-cons starts_in (Step g deed reply) h)
from-guests program world (Judged k place value ∷ h) =
    let rest = from-guests program world h in omega (arith, rest, sum_by-cons starts_in (Judged k place value) h)
from-guests program world (Wake g ∷ h) =
    let rest = from-guests program (wake world g) h in omega (arith, rest, sum_by-cons starts_in (Wake g) h)

-- main, and those that steps started
pub guests-counted : (program : Program) (h : List Event) → sum_by starts_in h + 1 ≡ length (world_after program h).guests
guests-counted program h = let e = from-guests program (start_world program) h in omega (arith, e)
