-- In each world that a legal history leads to, a guest that keeps a depth of a monitor is about to take it again and
-- doesn't own it, and a guest in a wait set keeps a depth.
use Rattle.std.proofs.Common.{◌≡◌, ◌≢◌, ◌==◌, ◌⊎◌, inl, inr, ◌||◌, ◌&&◌, ℕ, zero, suc, Bool, true, false, not, cond, nat_lt, is_some, List, [], ◌∷◌, ◌++◌, IsTrue, Option, Some, None, refl, ap, sym, subst, ◌∙◌, append_assoc, append-nil}
use Rattle.std.specs.Option.{option_map_or}
use Rattle.std.proofs.lemmas.Bool.{eq-eqb, ne_eqb, eqb-false, true≢false, false≢true, or_right, or_left}
use Rattle.std.proofs.lemmas.Bool.Decides.{eqb_tells}
use Rattle.jr_base.specs.Deed.{Deed, Call, Put, New, Enter, Exit, Wait, TimedWait, Resume, Notify, NotifyAll, Start, Back, End}
use Rattle.jr_base.specs.declared.number.GuestNo.{GuestNo}
use Rattle.jr_base.specs.declared.number.ObjId.{ObjId}
use Rattle.jr_base.specs.declared.number.Stamp.{Stamp}
use Rattle.jr_base.specs.declared.finish.Verdict.{Verdict}
use Rattle.jr_base.specs.declared.action.Reply.{Reply}
use Rattle.jr_base.specs.declared.action.Reply.TheVariants as replies
use Rattle.jr_base.specs.declared.action.NewKind.{NewKind}
use Rattle.jr_base.specs.declared.value.Value.{Value}
use Rattle.jr_base.specs.declared.value.Cell.{Cell}
use Rattle.jr_program.specs.Programs.{Program}
use Rattle.jr_meaning.specs.Next.{Next, Wants, next}
use Rattle.jr_meaning.specs.Along.{Along}
use Rattle.jr_meaning.specs.Event.{Event, Step, Judged, Wake}
use Rattle.jr_meaning.specs.World.{World, Guest, Monitor, Hold, Waiter, start_world, guest_at, is_live, same_guest, same_object}
use Rattle.jr_meaning.specs.Machine.{holds, owns, is_waiting, waits, after, entered, exited, one_less, with_waiter, without_guest, keeping, put, make, wait, resume, notify, notify_all, start, mark_ended, wake}
use Rattle.jr_meaning.specs.History.{world_after, replies_of, body_of, next_of, MayStep, MayCome, IsLegal}
use Rattle.jr_meaning.proofs.Histories.{world_after-step, world_after-wake, replies_of-own, replies_of-wake}
use Rattle.jr_meaning.proofs.Judging.{world_from-judged, replies_of-judged}
use Rattle.jr_meaning.proofs.Monitors.{guest-same}
use Rattle.jr_meaning.proofs.Guests.{Stays, stays}
use Rattle.jr_meaning.proofs.Endings.{wait-resumes, timed-wait-resumes}

-- ---- replies

pub replies_of-other : (g s : GuestNo) (h : List Event) (deed : Deed) (reply : Reply) → same_guest s g ≡ false →
    replies_of g (h ++ Step s deed reply ∷ []) ≡ replies_of g h
replies_of-other g s [] deed reply other = rw other refl
replies_of-other g s (Step g' d' r' ∷ h) deed reply other = ap (λ rs. cond (same_guest g' g) (r' ∷ rs) rs) (replies_of-other g s h deed reply other)
replies_of-other g s (Judged k p v ∷ h) deed reply other = replies_of-other g s h deed reply other
replies_of-other g s (Wake w ∷ h) deed reply other = replies_of-other g s h deed reply other

-- ---- what holds of each monitor

-- the guest was started, is about to take the monitor again, and doesn't own it
pub record Keeps (program : Program) (h : List Event) (object : ObjId) (hold : Option Hold) (g : GuestNo) : Type 0 where
  pub guest : Guest
  pub started : guest_at (world_after program h) g ≡ Some guest
  pub next : next_of program h g ≡ Wants (Resume object)
  pub not_owner : holds g hold ≡ false

pub record Good (program : Program) (h : List Event) (object : ObjId) (monitor : Monitor) : Type 0 where
  pub keeps : (g : GuestNo) (depth : ℕ) → monitor.kept g ≡ Some depth → Keeps program h object monitor.hold g
  pub waits : (g : GuestNo) → is_waiting g monitor.waiting ≡ true → is_some (monitor.kept g) ≡ true

abbrev pub AllGood : Program → List Event → Type 0
AllGood program h = (object : ObjId) → Good program h object ((world_after program h).monitors object)

-- ---- a step

module _ (program : Program) (budget : ℕ) (h : List Event) (s : GuestNo) (deed : Deed) (reply : Reply) (may : MayStep program budget h s deed reply) where
  abbrev later : List Event
  later = h ++ Step s deed reply ∷ []

  abbrev before : World
  before = world_after program h

  later-world : world_after program later ≡ after program before s deed reply
  later-world = world_after-step program h s deed reply

  stays-later : (g : GuestNo) (guest : Guest) → guest_at before g ≡ Some guest → Stays before (world_after program later) g guest
  stays-later g guest e = subst (λ w. Stays before w g guest) (sym later-world) (stays before g guest e program s deed reply)

  -- another guest's next action stays
  next-other : (g : GuestNo) (guest : Guest) → guest_at before g ≡ Some guest → same_guest s g ≡ false → next_of program later g ≡ next_of program h g
  next-other g guest e other =
      let there = stays-later g guest e in
      let body : body_of (world_after program later) g ≡ body_of before g =
      ap (λ o. option_map_or (λ (y : Guest). y.body) o None) there.at ∙ (there.same ∙ sym (ap (λ o. option_map_or (λ (y : Guest). y.body) o None) e)) in
      ap (λ b. next program b (replies_of g later)) body ∙ ap (next program (body_of before g)) (replies_of-other g s h deed reply other)

  -- what a guest other than s keeps it keeps, if it doesn't own the monitor now either
  keeps-other : (object : ObjId) (hold hold' : Option Hold) (g : GuestNo) → Keeps program h object hold g → same_guest s g ≡ false → holds g hold' ≡ false →
      Keeps program later object hold' g
  keeps-other object hold hold' g k other not_owner =
      let there = stays-later g k.guest k.started in
      record { guest = there.now; started = there.at; next = next-other g k.guest k.started other ∙ k.next; not_owner = not_owner }

  -- s keeps nothing, unless it takes that very monitor again
  resumes-only : (object : ObjId) (hold : Option Hold) → Keeps program h object hold s → deed ≡ Resume object
  resumes-only object hold k = same (sym may.can.next ∙ k.next)
    where
      same : Wants deed ≡ Wants (Resume object) → deed ≡ Resume object
      same e = ap wanted e
        where
          wanted : Next → Deed
          wanted (Wants d) = d
          wanted _ = Back

  -- a monitor that the step leaves as it is stays good
  untouched : (object : ObjId) (monitor : Monitor) → Good program h object monitor → deed ≢ Resume object → Good program later object monitor
  untouched object monitor good other = record { keeps = keeps; waits = good.waits }
    where
      keeps : (g : GuestNo) (depth : ℕ) → monitor.kept g ≡ Some depth → Keeps program later object monitor.hold g
      keeps g depth e = by (same_guest s g) refl
        where
          k : Keeps program h object monitor.hold g
          k = good.keeps g depth e

          by : (b : Bool) → same_guest s g ≡ b → Keeps program later object monitor.hold g
          by false is = keeps-other object monitor.hold monitor.hold g k is k.not_owner
          by true is = absurd (other (resumes-only object monitor.hold (subst (Keeps program h object monitor.hold) (sym (guest-same s g is)) k)))

  -- one that it changes in its owner alone stays good, where nobody but s comes to own it
  new-owner : (object : ObjId) (monitor : Monitor) (hold : Option Hold) → Good program h object monitor → deed ≢ Resume object →
      ((g : GuestNo) → same_guest s g ≡ false → holds g monitor.hold ≡ false → holds g hold ≡ false) →
      Good program later object (record monitor { hold = hold })
  new-owner object monitor hold good other owner = record { keeps = keeps; waits = good.waits }
    where
      keeps : (g : GuestNo) (depth : ℕ) → monitor.kept g ≡ Some depth → Keeps program later object hold g
      keeps g depth e = by (same_guest s g) refl
        where
          k : Keeps program h object monitor.hold g
          k = good.keeps g depth e

          by : (b : Bool) → same_guest s g ≡ b → Keeps program later object hold g
          by false is = keeps-other object monitor.hold hold g k is (owner g is k.not_owner)
          by true is = absurd (other (resumes-only object monitor.hold (subst (Keeps program h object monitor.hold) (sym (guest-same s g is)) k)))

  -- so does one of which guests leave the wait set
  fewer-waiting : (object : ObjId) (monitor : Monitor) (waiting : List Waiter) → Good program h object monitor → deed ≢ Resume object →
      ((g : GuestNo) → is_waiting g waiting ≡ true → is_waiting g monitor.waiting ≡ true) → Good program later object (record monitor { waiting = waiting })
  fewer-waiting object monitor waiting good other fewer =
      record { keeps = (untouched object monitor good other).keeps; waits = λ g among. good.waits g (fewer g among) }

  -- where one monitor changes all stay good
  one-changes : AllGood program h → (object : ObjId) (monitor : Monitor) → Good program later object monitor →
      ((other : ObjId) → same_object other object ≡ false → deed ≢ Resume other) →
      (other : ObjId) → Good program later other (cond (same_object other object) monitor (before.monitors other))
  one-changes good object monitor changed others other = by (eqb_tells other.0 object.0)
    where
      by : ((other.0 == object.0) ≡ true) × (other.0 ≡ object.0) ⊎ ((other.0 == object.0) ≡ false) × (other.0 ≡ object.0 → ⊥) →
          Good program later other (cond (same_object other object) monitor (before.monitors other))
      by (inl (t, e)) = rw t (subst (λ n. Good program later (record { 0 = n }) monitor) (sym e) changed)
      by (inr (t, ne)) = rw t (untouched other (before.monitors other) (good other) (others other t))

-- ---- each action

abbrev number_in : Deed → ℕ
number_in (Resume object) = object.0
number_in _ = 0

entered-owner : (s g : GuestNo) (hold : Option Hold) → same_guest s g ≡ false → holds g (entered s hold) ≡ false
entered-owner s g None other = other
entered-owner s g (Some hold) other = other

less-owner : (s g : GuestNo) (depth : ℕ) → same_guest s g ≡ false → holds g (one_less s depth) ≡ false
less-owner s g zero other = refl
less-owner s g (suc zero) other = refl
less-owner s g (suc (suc depth)) other = other

exited-owner : (s g : GuestNo) (hold : Option Hold) → same_guest s g ≡ false → holds g hold ≡ false → holds g (exited s hold) ≡ false
exited-owner s g None other e = refl
exited-owner s g (Some hold) other e = by (same_guest hold.guest s)
  where
    by : (b : Bool) → holds g (cond b (one_less s hold.depth) (Some hold)) ≡ false
    by true = less-owner s g hold.depth other
    by false = e

among-with : (g : GuestNo) (w : Waiter) (waiters : List Waiter) → is_waiting g (with_waiter w waiters) ≡ true → (same_guest g w.guest ≡ true) ⊎ (is_waiting g waiters ≡ true)
among-with g w [] among = either (same_guest g w.guest) among
  where
    either : (a : Bool) → (a || false) ≡ true → (a ≡ true) ⊎ (false ≡ true)
    either true e = inl refl
    either false e = inr e
among-with g w (other ∷ waiters) among = by (nat_lt w.guest.0 other.guest.0) among (among-with g w waiters)
  where
    either : (a b : Bool) → (a || b) ≡ true → (a ≡ true) ⊎ (b ≡ true)
    either true b e = inl refl
    either false b e = inr e

    by : (b : Bool) → is_waiting g (cond b (w ∷ other ∷ waiters) (other ∷ with_waiter w waiters)) ≡ true →
        (is_waiting g (with_waiter w waiters) ≡ true → (same_guest g w.guest ≡ true) ⊎ (is_waiting g waiters ≡ true)) →
        (same_guest g w.guest ≡ true) ⊎ ((same_guest g other.guest || is_waiting g waiters) ≡ true)
    by true among rest = either (same_guest g w.guest) (same_guest g other.guest || is_waiting g waiters) among
    by false among rest = later (either (same_guest g other.guest) (is_waiting g (with_waiter w waiters)) among)
      where
        later : (same_guest g other.guest ≡ true) ⊎ (is_waiting g (with_waiter w waiters) ≡ true) →
            (same_guest g w.guest ≡ true) ⊎ ((same_guest g other.guest || is_waiting g waiters) ≡ true)
        later (inl e) = inr (or_left (same_guest g other.guest) (is_waiting g waiters) e)
        later (inr e) = last (rest e)
          where
            last : (same_guest g w.guest ≡ true) ⊎ (is_waiting g waiters ≡ true) →
                (same_guest g w.guest ≡ true) ⊎ ((same_guest g other.guest || is_waiting g waiters) ≡ true)
            last (inl f) = inl f
            last (inr f) = inr (or_right (same_guest g other.guest) (is_waiting g waiters) f)

among-without : (g s : GuestNo) (waiters : List Waiter) → is_waiting g (without_guest s waiters) ≡ true → is_waiting g waiters ≡ true
among-without g s [] among = cc
among-without g s (other ∷ waiters) among = by (same_guest s other.guest) among (among-without g s waiters)
  where
    by : (b : Bool) → is_waiting g (cond (not b) (other ∷ without_guest s waiters) (without_guest s waiters)) ≡ true →
        (is_waiting g (without_guest s waiters) ≡ true → is_waiting g waiters ≡ true) → (same_guest g other.guest || is_waiting g waiters) ≡ true
    by true among rest = or_right (same_guest g other.guest) (is_waiting g waiters) (rest among)
    by false among rest = or-more (same_guest g other.guest) (is_waiting g (without_guest s waiters)) (is_waiting g waiters) among rest
      where
        or-more : (a b c : Bool) → (a || b) ≡ true → (b ≡ true → c ≡ true) → (a || c) ≡ true
        or-more true b c e f = refl
        or-more false b c e f = f e

put-monitors : (world : World) (cell : Cell) (value : Value) (reply : Reply) → (put world cell value reply).monitors ≡ world.monitors
put-monitors world cell value replies.Unit = refl
put-monitors world cell value _ = refl

make-monitors : (program : Program) (world : World) (kind : NewKind) (reply : Reply) → (make program world kind reply).monitors ≡ world.monitors
make-monitors program world kind (replies.Made object) = refl
make-monitors program world kind _ = refl

start-monitors : (world : World) (object : ObjId) (reply : Reply) → (start world object reply).monitors ≡ world.monitors
start-monitors world object (replies.Started g body) = refl
start-monitors world object _ = refl

end-monitors : (world : World) (s : GuestNo) (guest : Option Guest) → (mark_ended world s guest).monitors ≡ world.monitors
end-monitors world s None = refl
end-monitors world s (Some guest) = refl

live-guest : (world : World) (g : GuestNo) → is_live world g ≡ true → (guest : Guest) × (guest_at world g ≡ Some guest)
live-guest world g live = by (guest_at world g) live
  where
    by : (o : Option Guest) → option_map_or (λ (guest : Guest). not guest.ended) o false ≡ true → (guest : Guest) × (o ≡ Some guest)
    by None live = cc
    by (Some guest) live = (guest, refl)

same_guest-flip : (a b : GuestNo) → same_guest a b ≡ false → same_guest b a ≡ false
same_guest-flip a b e = ne_eqb b.0 a.0 (λ same. eqb-false a.0 b.0 e (sym same))

module _ (program : Program) (budget : ℕ) (h : List Event) (s : GuestNo) (good : AllGood program h) where
  abbrev world : World
  world = world_after program h

  -- where no monitor changes all stay good
  none-changes : (deed : Deed) (reply : Reply) → MayStep program budget h s deed reply → ((object : ObjId) → deed ≢ Resume object) →
      (next : World) → next.monitors ≡ world.monitors → (object : ObjId) → Good program (h ++ Step s deed reply ∷ []) object (next.monitors object)
  none-changes deed reply may others next same object =
      subst (λ m. Good program (h ++ Step s deed reply ∷ []) object (m object)) (sym same)
      (untouched program budget h s deed reply may object (world.monitors object) (good object) (others object))

  module _ (o : ObjId) where
    abbrev monitor : Monitor
    monitor = world.monitors o

    abbrev resumed-on : Reply → List Event
    resumed-on reply = h ++ Step s (Resume o) reply ∷ []

    -- a Wait, timed or not: what follows it is the Resume
    module _ (timed : Bool) (deed : Deed) (reply : Reply) (may : MayStep program budget h s deed reply) (other-deed : (object : ObjId) → deed ≢ Resume object) where
      abbrev waiter : Waiter
      waiter = record { guest = s; is_timed = timed }

      abbrev waited-on : List Event
      waited-on = h ++ Step s deed reply ∷ []

      waited : (hold : Hold) → next program (body_of world s) (replies_of s h ++ reply ∷ []) ≡ Wants (Resume o) →
          Good program waited-on o (record { hold = None; waiting = with_waiter waiter monitor.waiting; kept = keeping monitor.kept s (Some hold.depth) })
      waited hold resumes = record { keeps = keeps; waits = in_set }
        where
          own : Keeps program waited-on o None s
          own =
              let there = live-guest world s may.can.live in
              let stay = stays-later program budget h s deed reply may s there.0 there.1 in
              let body : body_of (world_after program waited-on) s ≡ body_of world s =
              ap (λ o. option_map_or (λ (y : Guest). y.body) o None) stay.at ∙ (stay.same ∙ sym (ap (λ o. option_map_or (λ (y : Guest). y.body) o None) there.1)) in
              record {
                guest = stay.now;
                started = stay.at;
                next = ap (λ b. next program b (replies_of s waited-on)) body ∙ (ap (next program (body_of world s)) (replies_of-own s h deed reply) ∙ resumes);
                not_owner = refl;
              }

          keeps : (g : GuestNo) (depth : ℕ) → keeping monitor.kept s (Some hold.depth) g ≡ Some depth → Keeps program waited-on o None g
          keeps g depth e = by (same_guest g s) refl e
            where
              by : (b : Bool) → same_guest g s ≡ b → cond b (Some hold.depth) (monitor.kept g) ≡ Some depth → Keeps program waited-on o None g
              by true is e = subst (Keeps program waited-on o None) (sym (guest-same g s is)) own
              by false is e = keeps-other program budget h s deed reply may o monitor.hold None g ((good o).keeps g depth e) (same_guest-flip g s is) refl

          in_set : (g : GuestNo) → is_waiting g (with_waiter waiter monitor.waiting) ≡ true → is_some (keeping monitor.kept s (Some hold.depth) g) ≡ true
          in_set g among = by (same_guest g s) refl (among-with g waiter monitor.waiting among)
            where
              by : (b : Bool) → same_guest g s ≡ b → (same_guest g s ≡ true) ⊎ (is_waiting g monitor.waiting ≡ true) →
                  is_some (cond b (Some hold.depth) (monitor.kept g)) ≡ true
              by true is either = refl
              by false is (inl e) = absurd (true≢false (sym e ∙ is))
              by false is (inr e) = (good o).waits g e

      wait-good : (hold : Option Hold) → (reply ≡ replies.Unit → next program (body_of world s) (replies_of s h ++ reply ∷ []) ≡ Wants (Resume o)) →
          (object : ObjId) → Good program waited-on object ((wait world waiter o monitor hold reply).monitors object)
      wait-good None resumes object = none-changes deed reply may other-deed world refl object
      wait-good (Some hold) resumes object = by reply refl
        where
          by : (r : Reply) → reply ≡ r → Good program waited-on object ((wait world waiter o monitor (Some hold) r).monitors object)
          by replies.Unit is = one-changes program budget h s deed reply may good o _ (waited hold (resumes is)) (λ other apart. other-deed other) object
          by (replies.Value value) is = none-changes deed reply may other-deed world refl object
          by _ is = none-changes deed reply may other-deed world refl object

    resumed : (depth : ℕ) (reply : Reply) → MayStep program budget h s (Resume o) reply →
        Good program (h ++ Step s (Resume o) reply ∷ []) o (record monitor { hold = Some (record { guest = s; depth = depth }); kept = keeping monitor.kept s None })
    resumed depth reply may = record { keeps = keeps; waits = in_set }
      where
        keeps : (g : GuestNo) (d : ℕ) → keeping monitor.kept s None g ≡ Some d → Keeps program (resumed-on reply) o (Some (record { guest = s; depth = depth })) g
        keeps g d e = by (same_guest g s) refl e
          where
            by : (b : Bool) → same_guest g s ≡ b → cond b None (monitor.kept g) ≡ Some d → Keeps program (resumed-on reply) o (Some (record { guest = s; depth = depth })) g
            by true is e = cc
            by false is e =
                keeps-other program budget h s (Resume o) reply may o monitor.hold (Some (record { guest = s; depth = depth })) g ((good o).keeps g d e)
                (same_guest-flip g s is) (same_guest-flip g s is)

        out : is_waiting s monitor.waiting ≡ false
        out = ready-out (is_some (monitor.kept s)) (is_waiting s monitor.waiting) (is_some monitor.hold) may.can.ready
          where
            ready-out : (a b c : Bool) → (a && not b && not c) ≡ true → b ≡ false
            ready-out a false c e = refl
            ready-out true true c e = cc
            ready-out false true c e = cc

        in_set : (g : GuestNo) → is_waiting g monitor.waiting ≡ true → is_some (keeping monitor.kept s None g) ≡ true
        in_set g among = by (same_guest g s) refl
          where
            by : (b : Bool) → same_guest g s ≡ b → is_some (cond b None (monitor.kept g)) ≡ true
            by true is = absurd (true≢false (sym (subst (λ g. is_waiting g monitor.waiting ≡ true) (guest-same g s is) among) ∙ out))
            by false is = (good o).waits g among

    resume-good : (reply : Reply) (kept : Option ℕ) → monitor.kept s ≡ kept → MayStep program budget h s (Resume o) reply →
        (object : ObjId) → Good program (resumed-on reply) object ((resume world s o monitor kept).monitors object)
    resume-good reply None is may object = absurd (false≢true (sym (ap (λ k. is_some k && not (is_waiting s monitor.waiting) && not (is_some monitor.hold)) is) ∙ may.can.ready))
    resume-good reply (Some depth) is may object =
        one-changes program budget h s (Resume o) reply may good o _ (resumed depth reply may)
        (λ other apart e. true≢false (sym (eq-eqb other.0 o.0 (sym (ap number_in e))) ∙ apart)) object

    notify-good : (reply : Reply) → MayStep program budget h s (Notify o) reply →
        (object : ObjId) → Good program (h ++ Step s (Notify o) reply ∷ []) object ((notify world o monitor reply).monitors object)
    notify-good (replies.Woke g) may object =
        one-changes program budget h s (Notify o) (replies.Woke g) may good o (record monitor { waiting = without_guest g monitor.waiting })
        (fewer-waiting program budget h s (Notify o) (replies.Woke g) may o monitor (without_guest g monitor.waiting) (good o) (λ e. cc) (λ x. among-without x g monitor.waiting))
        (λ other is e. cc) object
    notify-good replies.Nobody may object = none-changes (Notify o) replies.Nobody may (λ o e. cc) world refl object
    notify-good reply may object = none-changes (Notify o) reply may (λ o e. cc) world refl object

    notify-all-good : (reply : Reply) → MayStep program budget h s (NotifyAll o) reply →
        (object : ObjId) → Good program (h ++ Step s (NotifyAll o) reply ∷ []) object ((notify_all world o monitor reply).monitors object)
    notify-all-good replies.Unit may object =
        one-changes program budget h s (NotifyAll o) replies.Unit may good o (record monitor { waiting = [] })
        (fewer-waiting program budget h s (NotifyAll o) replies.Unit may o monitor [] (good o) (λ e. cc) (λ x e. absurd (false≢true e)))
        (λ other is e. cc) object
    notify-all-good replies.Nobody may object = none-changes (NotifyAll o) replies.Nobody may (λ o e. cc) world refl object
    notify-all-good reply may object = none-changes (NotifyAll o) reply may (λ o e. cc) world refl object

  step-good : (deed : Deed) (reply : Reply) → MayStep program budget h s deed reply →
      (object : ObjId) → Good program (h ++ Step s deed reply ∷ []) object ((after program world s deed reply).monitors object)
  step-good (Put cell value) reply may object =
      none-changes (Put cell value) reply may (λ o e. cc) (put world cell value reply) (put-monitors world cell value reply) object
  step-good (New kind) reply may object = none-changes (New kind) reply may (λ o e. cc) (make program world kind reply) (make-monitors program world kind reply) object
  step-good (Start o) reply may object = none-changes (Start o) reply may (λ o e. cc) (start world o reply) (start-monitors world o reply) object
  step-good (End how) reply may object =
      none-changes (End how) reply may (λ o e. cc) (mark_ended world s (guest_at world s)) (end-monitors world s (guest_at world s)) object
  step-good (Enter o way) reply may object =
      one-changes program budget h s (Enter o way) reply may good o (record (world.monitors o) { hold = entered s (world.monitors o).hold })
      (new-owner program budget h s (Enter o way) reply may o (world.monitors o) (entered s (world.monitors o).hold) (good o) (λ e. cc)
      (λ g other not_owner. entered-owner s g (world.monitors o).hold other))
      (λ other is e. cc) object
  step-good (Exit o) reply may object =
      one-changes program budget h s (Exit o) reply may good o (record (world.monitors o) { hold = exited s (world.monitors o).hold })
      (new-owner program budget h s (Exit o) reply may o (world.monitors o) (exited s (world.monitors o).hold) (good o) (λ e. cc)
      (λ g other not_owner. exited-owner s g (world.monitors o).hold other not_owner))
      (λ other is e. cc) object
  step-good (Wait o) reply may object =
      wait-good o false (Wait o) reply may (λ object e. cc) (world.monitors o).hold
      (λ is. ap (λ r. next program (body_of world s) (replies_of s h ++ r ∷ [])) is ∙ wait-resumes program (body_of world s) (replies_of s h) o may.can.next) object
  step-good (TimedWait o) reply may object =
      wait-good o true (TimedWait o) reply may (λ object e. cc) (world.monitors o).hold
      (λ is. ap (λ r. next program (body_of world s) (replies_of s h ++ r ∷ [])) is ∙ timed-wait-resumes program (body_of world s) (replies_of s h) o may.can.next) object
  step-good (Resume o) reply may object = resume-good o reply ((world.monitors o).kept s) refl may object
  step-good (Notify o) reply may object = notify-good o reply may object
  step-good (NotifyAll o) reply may object = notify-all-good o reply may object
  step-good (Call m this arguments) reply may object = none-changes (Call m this arguments) reply may (λ o e. cc) world refl object
  step-good deed reply may object = none-changes deed reply may (λ o e. cc) world refl object

-- ---- a history

good-judged : (program : Program) (h : List Event) (k : Stamp) (place : ℕ) (value : Verdict) → AllGood program h → AllGood program (h ++ Judged k place value ∷ [])
good-judged program h k place value good object =
    let later : List Event = h ++ Judged k place value ∷ [] in
    let same : world_after program later ≡ world_after program h = world_from-judged program (start_world program) h k place (value ∷ []) in
    subst (λ w. Good program later object (w.monitors object)) (sym same) (record {
      keeps = λ g depth e. let old = (good object).keeps g depth e in record {
        guest = old.guest;
        started = ap (λ w. guest_at w g) same ∙ old.started;
        next = ap (λ w. next program (body_of w g) (replies_of g later)) same
            ∙ (ap (next program (body_of (world_after program h) g)) (replies_of-judged g h k place (value ∷ [])) ∙ old.next);
        not_owner = old.not_owner;
      };
      waits = (good object).waits;
    })

-- nor does a wake-up
good-wake : (program : Program) (h : List Event) (w : GuestNo) → AllGood program h → AllGood program (h ++ Wake w ∷ [])
good-wake program h w good object =
    let later : List Event = h ++ Wake w ∷ [] in
    let same : world_after program later ≡ wake (world_after program h) w = world_after-wake program h w in
    subst (λ x. Good program later object (x.monitors object)) (sym same) (record {
      keeps = λ g depth e. let old = (good object).keeps g depth e in record {
        guest = old.guest;
        started = ap (λ x. guest_at x g) same ∙ old.started;
        next = ap (λ x. next program (body_of x g) (replies_of g later)) same
            ∙ (ap (next program (body_of (world_after program h) g)) (replies_of-wake g h w) ∙ old.next);
        not_owner = old.not_owner;
      };
      waits = λ g among. (good object).waits g (among-without g w ((world_after program h).monitors object).waiting among);
    })

along-good : (program : Program) (budget : ℕ) (before h : List Event) → AllGood program before → Along (MayCome program budget) before h → AllGood program (before ++ h)
along-good program budget before [] good legal = subst (AllGood program) (sym (append-nil before)) good
along-good program budget before (Step s deed reply ∷ h) good legal =
    subst (AllGood program) (append_assoc before (Step s deed reply ∷ []) h)
    (along-good program budget (before ++ Step s deed reply ∷ []) h
    (λ object. subst (λ w. Good program (before ++ Step s deed reply ∷ []) object (w.monitors object)) (sym (world_after-step program before s deed reply)) (step-good program budget before s good deed reply legal.0 object)) legal.1)
along-good program budget before (Judged k place value ∷ h) good legal =
    subst (AllGood program) (append_assoc before (Judged k place value ∷ []) h)
    (along-good program budget (before ++ Judged k place value ∷ []) h (good-judged program before k place value good) legal.1)
along-good program budget before (Wake w ∷ h) good legal =
    subst (AllGood program) (append_assoc before (Wake w ∷ []) h) (along-good program budget (before ++ Wake w ∷ []) h (good-wake program before w good) legal.1)

pub all-good : (program : Program) (budget : ℕ) (h : List Event) → IsLegal program budget h → AllGood program h
all-good program budget h legal = along-good program budget [] h (λ object. record { keeps = λ g depth e. cc; waits = λ g e. absurd (false≢true e) }) legal

-- a waiting guest doesn't own what it waits for
pub waiting-owns-nothing : (program : Program) (budget : ℕ) (h : List Event) → IsLegal program budget h → (g : GuestNo) (object : ObjId) →
    IsTrue (waits (world_after program h) g object) → owns (world_after program h) g object ≡ false
waiting-owns-nothing program budget h legal g object waiting = by (((world_after program h).monitors object).kept g) refl
  where
    good : Good program h object ((world_after program h).monitors object)
    good = all-good program budget h legal object

    by : (kept : Option ℕ) → ((world_after program h).monitors object).kept g ≡ kept → owns (world_after program h) g object ≡ false
    by None is = absurd (false≢true (sym (ap is_some is) ∙ good.waits g waiting))
    by (Some depth) is = (good.keeps g depth is).not_owner
