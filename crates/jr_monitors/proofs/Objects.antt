-- What is owned, and what a depth is kept for, stays an object of the world.
use Rattle.std.proofs.Common.{◌≡◌, ℕ, zero, suc, Bool, true, false, cond, true≢false, IsTrue, IsSome, List, [], ◌∷◌, ◌++◌, slice_get, Option, Some, None, refl, sym, ◌∙◌, ap, subst}
use Rattle.jr_base.specs.Deed.{Deed, Call, Put, New, Enter, Exit, Wait, TimedWait, Resume, Notify, NotifyAll, Start, End}
use Rattle.jr_base.specs.declared.number.ObjId.{ObjId}
use Rattle.jr_base.specs.declared.number.GuestNo.{GuestNo}
use Rattle.jr_base.specs.declared.action.NewKind.{NewKind}
use Rattle.jr_base.specs.declared.action.Reply.{Reply}
use Rattle.jr_base.specs.declared.action.Reply.TheVariants as replies
use Rattle.jr_base.specs.declared.value.Cell.{Cell}
use Rattle.jr_base.specs.declared.value.Value.{Value}
use Rattle.jr_program.specs.Programs.{Program, numbered}
use Rattle.jr_meaning.specs.World.{World, Monitor, Hold, Waiter, Guest, ObjectKind, Made, kind_of, same_object, guest_at}
use Rattle.jr_meaning.specs.Machine.{after, put, make, start, mark_ended, holds, exited, wait, resume, notify, notify_all, with_monitor}
use Rattle.jr_monitors.specs.Stands.{HasItsObjects, EntersAnObject}
use Rattle.jr_monitors.proofs.Owning.{guest_itself, object_is}

-- a monitor of an object of the world, or one that nobody owns and no depth is kept for
record Fine (world : World) (object : ObjId) (m : Monitor) : Type 0 where
  owned : (g : GuestNo) → IsTrue (holds g m.hold) → IsSome (kind_of world object)
  kept : (g : GuestNo) → IsSome (m.kept g) → IsSome (kind_of world object)

fine_if : (world : World) (o object : ObjId) (m n : Monitor) (b : Bool) → same_object o object ≡ b → Fine world object m → Fine world o n → Fine world o (cond b m n)
fine_if world o object m n true same f f' = subst (λ p. Fine world p m) (sym (object_is o object same)) f
fine_if world o object m n false same f f' = f'

fine-at : (world : World) → HasItsObjects world → (o : ObjId) → Fine world o (world.monitors o)
fine-at world h o = record { owned = h.owned o; kept = h.kept o }

with-fine : (world : World) → HasItsObjects world → (object : ObjId) (m : Monitor) → Fine world object m → HasItsObjects (with_monitor world object m)
with-fine world h object m f =
    let at : (o : ObjId) → Fine world o (cond (same_object o object) m (world.monitors o)) = λ o. fine_if world o object m (world.monitors o) (same_object o object) refl f (fine-at world h o) in
    record { owned = λ o g own. (at o).owned g own; kept = λ o g has. (at o).kept g has }

there-fine : (world : World) (object : ObjId) (m : Monitor) → IsSome (kind_of world object) → Fine world object m
there-fine world object m there = record { owned = λ g own. there; kept = λ g has. there }

-- a monitor with an owner is that of an object of the world
by-hold : (world : World) → HasItsObjects world → (object : ObjId) (hold : Hold) → (world.monitors object).hold ≡ Some hold → IsSome (kind_of world object)
by-hold world h object hold is = h.owned object hold.guest (ap (holds hold.guest) is ∙ guest_itself hold.guest)

got-more : (xs ys : List ObjectKind) (n : ℕ) → IsSome (slice_get xs n) → IsSome (slice_get (xs ++ ys) n)
got-more [] ys n there = absurd (cc)
got-more (x ∷ xs) ys zero there = there
got-more (x ∷ xs) ys (suc n) there = got-more xs ys n there

more-objects : (xs ys : List ObjectKind) (n : ℕ) → IsSome (numbered xs n) → IsSome (numbered (xs ++ ys) n)
more-objects xs ys zero there = there
more-objects xs ys (suc n) there = got-more xs ys n there

module _ (program : Program) (world : World) (h : HasItsObjects world) where
  put-fine : (cell : Cell) (value : Value) (reply : Reply) → HasItsObjects (put world cell value reply)
  put-fine cell value replies.Unit = record { owned = h.owned; kept = h.kept }
  put-fine cell value reply = h

  make-fine : (kind : NewKind) (reply : Reply) → HasItsObjects (make program world kind reply)
  make-fine kind (replies.Made object) = record {
    owned = λ o g own. more-objects world.objects (Made kind ∷ []) o.0 (h.owned o g own);
    kept = λ o g has. more-objects world.objects (Made kind ∷ []) o.0 (h.kept o g has);
  }
  make-fine kind reply = h

  wait-fine : (w : Waiter) (object : ObjId) (hold : Option Hold) (reply : Reply) → (world.monitors object).hold ≡ hold → HasItsObjects (wait world w object (world.monitors object) hold reply)
  wait-fine w object None reply is = h
  wait-fine w object (Some hold) replies.Unit is = with-fine world h object _ (there-fine world object _ (by-hold world h object hold is))
  wait-fine w object (Some hold) reply is = h

  resume-fine : (g : GuestNo) (object : ObjId) (kept : Option ℕ) → (world.monitors object).kept g ≡ kept → HasItsObjects (resume world g object (world.monitors object) kept)
  resume-fine g object None is = h
  resume-fine g object (Some depth) is = with-fine world h object _ (there-fine world object _ (h.kept object g (subst IsSome (sym is) refl)))

  notify-fine : (object : ObjId) (reply : Reply) → HasItsObjects (notify world object (world.monitors object) reply)
  notify-fine object (replies.Woke g) = with-fine world h object _ (record { owned = h.owned object; kept = h.kept object })
  notify-fine object reply = h

  notify_all-fine : (object : ObjId) (reply : Reply) → HasItsObjects (notify_all world object (world.monitors object) reply)
  notify_all-fine object replies.Unit = with-fine world h object _ (record { owned = h.owned object; kept = h.kept object })
  notify_all-fine object reply = h

  start-fine : (object : ObjId) (reply : Reply) → HasItsObjects (start world object reply)
  start-fine object (replies.Started g body) = record { owned = h.owned; kept = h.kept }
  start-fine object reply = h

  end-fine : (g : GuestNo) (o : Option Guest) → HasItsObjects (mark_ended world g o)
  end-fine g None = h
  end-fine g (Some guest) = record { owned = h.owned; kept = h.kept }

  exit-owned : (g : GuestNo) (object : ObjId) (hold : Option Hold) → (world.monitors object).hold ≡ hold → (x : GuestNo) → IsTrue (holds x (exited g hold)) → IsSome (kind_of world object)
  exit-owned g object None is x own = absurd (true≢false (sym own))
  exit-owned g object (Some hold) is x own = by-hold world h object hold is

pub objects-stay : (program : Program) (world : World) (g : GuestNo) (deed : Deed) (reply : Reply) → HasItsObjects world → EntersAnObject world deed → HasItsObjects (after program world g deed reply)
objects-stay program world g (Put cell value) reply h enters = put-fine program world h cell value reply
objects-stay program world g (New kind) reply h enters = make-fine program world h kind reply
objects-stay program world g (Enter object way) reply h enters = with-fine world h object _ (there-fine world object _ enters)
objects-stay program world g (Exit object) reply h enters =
    with-fine world h object _ (record { owned = exit-owned program world h g object (world.monitors object).hold refl; kept = h.kept object })
objects-stay program world g (Wait object) reply h enters = wait-fine program world h (record { guest = g; is_timed = false }) object (world.monitors object).hold reply refl
objects-stay program world g (TimedWait object) reply h enters = wait-fine program world h (record { guest = g; is_timed = true }) object (world.monitors object).hold reply refl
objects-stay program world g (Resume object) reply h enters = resume-fine program world h g object ((world.monitors object).kept g) refl
objects-stay program world g (Notify object) reply h enters = notify-fine program world h object reply
objects-stay program world g (NotifyAll object) reply h enters = notify_all-fine program world h object reply
objects-stay program world g (Start object) reply h enters = start-fine program world h object reply
objects-stay program world g (End how) reply h enters = end-fine program world h g (guest_at world g)
objects-stay program world g (Call m this arguments) reply h enters = h
objects-stay program world g deed reply h enters = h
