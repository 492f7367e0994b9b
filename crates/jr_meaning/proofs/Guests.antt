-- Guests that were started are there for good.
use Rattle.std.proofs.Common.{◌≡◌, ◌-◌, ℕ, zero, suc, true, List, [], ◌∷◌, ◌++◌, Option, Some, None, slice_get, slice_set, refl, ap, sym, subst, ◌∙◌, arith}
use Rattle.std.specs.Option.{option_map_or}
use Rattle.jr_base.specs.Deed.{Deed, Put, New, Enter, Exit, Wait, TimedWait, Resume, Notify, NotifyAll, Start, End}
use Rattle.jr_base.specs.declared.number.GuestNo.{GuestNo}
use Rattle.jr_base.specs.declared.number.ObjId.{ObjId}
use Rattle.jr_base.specs.declared.action.NewKind.{NewKind}
use Rattle.jr_base.specs.declared.action.Reply.{Reply}
use Rattle.jr_base.specs.declared.action.Reply.TheVariants as replies
use Rattle.jr_base.specs.declared.value.Value.{Value}
use Rattle.jr_base.specs.declared.value.Cell.{Cell}
use Rattle.jr_program.specs.Programs.{Program, numbered}
use Rattle.jr_meaning.specs.Event.{Event, Step, Judged, Wake}
use Rattle.jr_meaning.specs.World.{World, Guest, Monitor, Hold, Waiter, guest_at}
use Rattle.jr_meaning.specs.Machine.{after, put, make, wait, resume, notify, notify_all, start, mark_ended, wake}
use Rattle.jr_meaning.specs.History.{world_from}

-- a guest that was started is there for good, with its body, and once ended stays so
pub record Stays (world later : World) (g : GuestNo) (guest : Guest) : Type 0 where
  pub now : Guest
  pub at : guest_at later g ≡ Some now
  pub same : now.body ≡ guest.body
  pub over : guest.ended ≡ true → now.ended ≡ true

slice_get-more : {A : Type 0} (xs more : List A) (n : ℕ) (x : A) → slice_get xs n ≡ Some x → slice_get (xs ++ more) n ≡ Some x
slice_get-more [] more n x e = cc
slice_get-more (y ∷ xs) more zero x e = e
slice_get-more (y ∷ xs) more (suc n) x e = slice_get-more xs more n x e

stay-so : (world later : World) (g : GuestNo) (guest : Guest) → later.guests ≡ world.guests → guest_at world g ≡ Some guest → Stays world later g guest
stay-so world later g guest same e = record { now = guest; at = ap (λ gs. numbered gs g.0) same ∙ e; same = refl; over = λ e. e }

pub put-guests : (world : World) (cell : Cell) (value : Value) (reply : Reply) → (put world cell value reply).guests ≡ world.guests
put-guests world cell value replies.Unit = refl
put-guests world cell value _ = refl

pub make-guests : (program : Program) (world : World) (kind : NewKind) (reply : Reply) → (make program world kind reply).guests ≡ world.guests
make-guests program world kind (replies.Made object) = refl
make-guests program world kind _ = refl

pub wait-guests : (world : World) (w : Waiter) (object : ObjId) (monitor : Monitor) (hold : Option Hold) (reply : Reply) → (wait world w object monitor hold reply).guests ≡ world.guests
wait-guests world w object monitor None reply = refl
wait-guests world w object monitor (Some hold) replies.Unit = refl
wait-guests world w object monitor (Some hold) _ = refl

pub resume-guests : (world : World) (g : GuestNo) (object : ObjId) (monitor : Monitor) (depth : Option ℕ) → (resume world g object monitor depth).guests ≡ world.guests
resume-guests world g object monitor None = refl
resume-guests world g object monitor (Some depth) = refl

pub notify-guests : (world : World) (object : ObjId) (monitor : Monitor) (reply : Reply) → (notify world object monitor reply).guests ≡ world.guests
notify-guests world object monitor (replies.Woke g) = refl
notify-guests world object monitor _ = refl

pub notify-all-guests : (world : World) (object : ObjId) (monitor : Monitor) (reply : Reply) → (notify_all world object monitor reply).guests ≡ world.guests
notify-all-guests world object monitor replies.Unit = refl
notify-all-guests world object monitor _ = refl

more-guests : (gs more : List Guest) (n : ℕ) (guest : Guest) → numbered gs n ≡ Some guest → numbered (gs ++ more) n ≡ Some guest
more-guests gs more zero guest e = e
more-guests gs more (suc n) guest e = slice_get-more gs more n guest e

start-stays : (world : World) (g : GuestNo) (guest : Guest) → guest_at world g ≡ Some guest → (object : ObjId) (reply : Reply) → Stays world (start world object reply) g guest
start-stays world g guest e object (replies.Started n body) = record { now = guest; at = more-guests world.guests _ g.0 guest e; same = refl; over = λ e. e }
start-stays world g guest e object replies.Unit = stay-so world world g guest refl e
start-stays world g guest e object (replies.Value value) = stay-so world world g guest refl e
start-stays world g guest e object (replies.Made made) = stay-so world world g guest refl e
start-stays world g guest e object replies.Range = stay-so world world g guest refl e
start-stays world g guest e object replies.Illegal = stay-so world world g guest refl e
start-stays world g guest e object replies.Nobody = stay-so world world g guest refl e
start-stays world g guest e object (replies.Woke n) = stay-so world world g guest refl e

-- one guest given anew with its body
set-there : (gs : List Guest) (n m : ℕ) (new : Guest) (guest : Guest) → slice_get gs n ≡ Some guest → ((old : Guest) → slice_get gs m ≡ Some old → new.body ≡ old.body) → new.ended ≡ true →
    (now : Guest) × (slice_get (slice_set gs m new) n ≡ Some now) × (now.body ≡ guest.body) × (guest.ended ≡ true → now.ended ≡ true)
set-there [] n m new guest e same over = cc
set-there (x ∷ gs) zero zero new guest e same over = (new, refl, same x refl ∙ ap (λ o. option_map_or (λ (y : Guest). y.body) o None) e, λ was. over)
set-there (x ∷ gs) zero (suc m) new guest e same over = (guest, e, refl, λ was. was)
set-there (x ∷ gs) (suc n) zero new guest e same over = (guest, e, refl, λ was. was)
set-there (x ∷ gs) (suc n) (suc m) new guest e same over = set-there gs n m new guest e same over

end-there : (gs : List Guest) (n m : ℕ) (guest old : Guest) → numbered gs n ≡ Some guest → numbered gs m ≡ Some old →
    (now : Guest) × (numbered (slice_set gs (m - 1) (record old { ended = true })) n ≡ Some now) × (now.body ≡ guest.body) × (guest.ended ≡ true → now.ended ≡ true)
end-there gs zero m guest old e is = cc
end-there gs (suc n) zero guest old e is = cc
end-there gs (suc n) (suc m) guest old e is =
    let less : suc m - 1 ≡ m = omega arith in
    rw less (set-there gs n m (record old { ended = true }) guest e (λ other at. ap (λ o. option_map_or (λ (y : Guest). y.body) o None) (sym is ∙ at)) refl)

end-stays : (world : World) (g s : GuestNo) (guest : Guest) → guest_at world g ≡ Some guest → Stays world (mark_ended world s (guest_at world s)) g guest
end-stays world g s guest e = by (guest_at world s) refl
  where
    by : (o : Option Guest) → guest_at world s ≡ o → Stays world (mark_ended world s o) g guest
    by None is = stay-so world world g guest refl e
    by (Some old) is = let there = end-there world.guests g.0 s.0 guest old e is in record { now = there.0; at = there.1; same = there.2; over = there.3 }

pub stays : (world : World) (g : GuestNo) (guest : Guest) → guest_at world g ≡ Some guest → (program : Program) (s : GuestNo) (deed : Deed) (reply : Reply) →
    Stays world (after program world s deed reply) g guest
stays world g guest e program s (Put cell value) reply = stay-so world _ g guest (put-guests world cell value reply) e
stays world g guest e program s (New kind) reply = stay-so world _ g guest (make-guests program world kind reply) e
stays world g guest e program s (Enter object way) reply = stay-so world _ g guest refl e
stays world g guest e program s (Exit object) reply = stay-so world _ g guest refl e
stays world g guest e program s (Wait object) reply = stay-so world _ g guest (wait-guests world _ object (world.monitors object) (world.monitors object).hold reply) e
stays world g guest e program s (TimedWait object) reply = stay-so world _ g guest (wait-guests world _ object (world.monitors object) (world.monitors object).hold reply) e
stays world g guest e program s (Resume object) reply = stay-so world _ g guest (resume-guests world s object (world.monitors object) ((world.monitors object).kept s)) e
stays world g guest e program s (Notify object) reply = stay-so world _ g guest (notify-guests world object (world.monitors object) reply) e
stays world g guest e program s (NotifyAll object) reply = stay-so world _ g guest (notify-all-guests world object (world.monitors object) reply) e
stays world g guest e program s (Start object) reply = start-stays world g guest e object reply
stays world g guest e program s (End how) reply = end-stays world g s guest e
stays world g guest e program s _ reply = stay-so world world g guest refl e

-- and so after many steps
pub stays-along : (program : Program) (world : World) (h : List Event) (g : GuestNo) (guest : Guest) → guest_at world g ≡ Some guest →
    Stays world (world_from program world h) g guest
stays-along program world [] g guest e = record { now = guest; at = e; same = refl; over = λ was. was }
stays-along program world (Step s deed reply ∷ h) g guest e =
    let first = stays world g guest e program s deed reply in
    let rest = stays-along program (after program world s deed reply) h g first.now first.at in
    record { now = rest.now; at = rest.at; same = rest.same ∙ first.same; over = λ was. rest.over (first.over was) }
stays-along program world (Judged k p v ∷ h) g guest e =
    let rest = stays-along program world h g guest e in record { now = rest.now; at = rest.at; same = rest.same; over = rest.over }
stays-along program world (Wake w ∷ h) g guest e =
    let rest = stays-along program (wake world w) h g guest e in record { now = rest.now; at = rest.at; same = rest.same; over = rest.over }

-- an End ends the guest
ended-there : (gs : List Guest) (n : ℕ) (guest : Guest) → numbered gs n ≡ Some guest →
    numbered (slice_set gs (n - 1) (record guest { ended = true })) n ≡ Some (record guest { ended = true })
ended-there gs zero guest e = cc
ended-there gs (suc n) guest e = let less : suc n - 1 ≡ n = omega arith in rw less (set gs n e)
  where
    set : (gs : List Guest) (n : ℕ) → slice_get gs n ≡ Some guest → slice_get (slice_set gs n (record guest { ended = true })) n ≡ Some (record guest { ended = true })
    set [] n e = cc
    set (x ∷ gs) zero e = refl
    set (x ∷ gs) (suc n) e = set gs n e

pub end-ends : (world : World) (g : GuestNo) (guest : Guest) → guest_at world g ≡ Some guest →
    guest_at (mark_ended world g (guest_at world g)) g ≡ Some (record guest { ended = true })
end-ends world g guest e = subst (λ o. guest_at (mark_ended world g o) g ≡ Some (record guest { ended = true })) (sym e) (ended-there world.guests g.0 guest e)
