-- A built program's runs have main's thread alone.
use Rattle.std.proofs.Common.{◌≡◌, ℕ, zero, suc, ◌-◌, Bool, true, false, is_some, List, [], ◌∷◌, ◌++◌, find, Option, Some, None, slice_set, IsTrue, refl, sym, ap, subst, ◌∙◌}
use Rattle.std.proofs.lemmas.Bool.{false≢true}
use Rattle.jr_base.specs.Deed.{Deed}
use Rattle.jr_base.specs.Deed as deeds
use Rattle.jr_base.specs.declared.number.GuestNo.{GuestNo}
use Rattle.jr_base.specs.declared.number.ObjId.{ObjId}
use Rattle.jr_base.specs.declared.action.NewKind.{NewKind}
use Rattle.jr_base.specs.declared.action.Reply.{Reply}
use Rattle.jr_base.specs.declared.action.Reply.TheVariants as replies
use Rattle.jr_base.specs.declared.value.Value.{Value}
use Rattle.jr_base.specs.declared.value.Cell.{Cell}
use Rattle.jr_program.specs.Programs.{Program, numbered}
use Rattle.jr_meaning.specs.Along.{Along}
use Rattle.jr_meaning.specs.Event.{Event, Step, Judged, Wake}
use Rattle.jr_meaning.specs.World.{World, Guest, free_monitor, start_world, guest_at, is_live}
use Rattle.jr_meaning.specs.Machine.{waits, is_waiter, is_ready, put, make, mark_ended, after, wake}
use Rattle.jr_meaning.specs.History.{world_from, world_after, body_of, replies_of, MayCome, IsLegal}
use Rattle.jr_built.specs.Built.{is_built}
use Rattle.jr_built.specs.OneThread.{IsPlain, HasOneThread}
use Rattle.jr_built.proofs.Plain.{asks-plainly}

-- main's thread, live or ended
abbrev main_guest : Program → Bool → Guest
main_guest program ended = record { object = None; body = Some (record { method = program.main; this = None }); ended = ended }

-- that thread alone, and all monitors free
record OneGuest (program : Program) (world : World) : Type 0 where
  ended : Bool
  guests : world.guests ≡ main_guest program ended ∷ []
  free : (object : ObjId) → world.monitors object ≡ free_monitor

-- ---- a plain action keeps it

module _ (program : Program) (world : World) (one : OneGuest program world) where
  put-one : (cell : Cell) (value : Value) (reply : Reply) → OneGuest program (put world cell value reply)
  put-one cell value replies.Unit = record { ended = one.ended; guests = one.guests; free = one.free }
  put-one cell value _ = one

  make-one : (kind : NewKind) (reply : Reply) → OneGuest program (make program world kind reply)
  make-one kind (replies.Made object) = record { ended = one.ended; guests = one.guests; free = one.free }
  make-one kind _ = one

  marked : (ended : Bool) (n : ℕ) (guest : Guest) → numbered (main_guest program ended ∷ []) n ≡ Some guest →
      slice_set (main_guest program ended ∷ []) (n - 1) (record guest { ended = true }) ≡ main_guest program true ∷ []
  marked ended zero guest e = cc
  marked ended (suc zero) guest e = ap (λ (x : Guest). record x { ended = true } ∷ []) (same (main_guest program ended) guest e)
    where
      same : (x y : Guest) → Some x ≡ Some y → y ≡ x
      same x y e = cc
  marked ended (suc (suc n)) guest e = cc

  mark-one : (g : GuestNo) (guest : Option Guest) → guest_at world g ≡ guest → OneGuest program (mark_ended world g guest)
  mark-one g None e = one
  mark-one g (Some guest) e = record {
    ended = true;
    guests = ap (λ gs. slice_set gs (g.0 - 1) (record guest { ended = true })) one.guests
        ∙ marked one.ended g.0 guest (subst (λ gs. numbered gs g.0 ≡ Some guest) one.guests e);
    free = one.free;
  }

  after-one : (g : GuestNo) (deed : Deed) (reply : Reply) → IsPlain deed → OneGuest program (after program world g deed reply)
  after-one g (deeds.Put cell value) reply plain = put-one cell value reply
  after-one g (deeds.New kind) reply plain = make-one kind reply
  after-one g (deeds.End how) reply plain = mark-one g (guest_at world g) refl
  after-one g (deeds.Enter object way) reply plain = absurd plain
  after-one g (deeds.Exit object) reply plain = absurd plain
  after-one g (deeds.Wait object) reply plain = absurd plain
  after-one g (deeds.TimedWait object) reply plain = absurd plain
  after-one g (deeds.Resume object) reply plain = absurd plain
  after-one g (deeds.Notify object) reply plain = absurd plain
  after-one g (deeds.NotifyAll object) reply plain = absurd plain
  after-one g (deeds.Start object) reply plain = absurd plain
  after-one g (deeds.Join object) reply plain = absurd plain
  after-one g _ reply plain = one

  -- ---- what follows

  none-found : {A : Type 0} (test : A → Bool) (xs : List A) → ((x : A) → test x ≡ false) → find test xs ≡ None
  none-found test [] none = refl
  none-found test (x ∷ xs) none = rw (none x) (none-found test xs none)

  none-waits : (g : GuestNo) → is_waiter world g ≡ false
  none-waits g = ap is_some (none-found (waits world g) _ (λ object. rw (one.free object) refl))

  only-first : (ended : Bool) (n : ℕ) → IsTrue (is_live (record world { guests = main_guest program ended ∷ [] }) (record { 0 = n })) → n ≡ 1
  only-first ended zero live = absurd (false≢true live)
  only-first ended (suc zero) live = refl
  only-first ended (suc (suc n)) live = absurd (false≢true live)

  first-alone : (g : GuestNo) → IsTrue (is_live world g) → g ≡ record { 0 = 1 }
  first-alone g live = by g.0 (only-first one.ended g.0 (subst (λ gs. IsTrue (is_live (record world { guests = gs }) g)) one.guests live))
    where
      by : (n : ℕ) → n ≡ 1 → ◌≡◌ {A = GuestNo} (record { 0 = n }) (record { 0 = 1 })
      by n e = ap (λ k. record { 0 = k }) e

  plain-ready : (g : GuestNo) (deed : Deed) → IsPlain deed → is_ready world g deed ≡ true
  plain-ready g (deeds.Enter object way) plain = absurd plain
  plain-ready g (deeds.Resume object) plain = absurd plain
  plain-ready g (deeds.Join object) plain = absurd plain
  plain-ready g _ plain = refl

  has-one : HasOneThread program world
  has-one = record {
    ended = one.ended;
    guests = one.guests;
    free = one.free;
    first_alone = first-alone;
    nobody_owns = λ g object. rw (one.free object) refl;
    nobody_waits = none-waits;
    ready = plain-ready;
  }

-- ---- a history

from-append : (program : Program) (world : World) (h k : List Event) → world_from program world (h ++ k) ≡ world_from program (world_from program world h) k
from-append program world [] k = refl
from-append program world (Step g deed reply ∷ h) k = from-append program (after program world g deed reply) h k
from-append program world (Judged step place value ∷ h) k = from-append program world h k
from-append program world (Wake g ∷ h) k = from-append program (wake world g) h k

along-one : (program : Program) → is_built program ≡ true → (budget : ℕ) (world : World) (before h : List Event) → world_after program before ≡ world → OneGuest program world →
    Along (MayCome program budget) before h → OneGuest program (world_from program world h)
along-one program built budget world before [] is one legal = one
along-one program built budget world before (Step g deed reply ∷ h) is one legal =
    along-one program built budget (after program world g deed reply) (before ++ Step g deed reply ∷ []) h
    (from-append program (start_world program) before (Step g deed reply ∷ []) ∙ ap (λ w. after program w g deed reply) is)
    (after-one program world one g deed reply (asks-plainly program built (body_of (world_after program before) g) (replies_of g before) deed legal.0.can.next)) legal.1
along-one program built budget world before (Judged step place value ∷ h) is one legal =
    along-one program built budget world (before ++ Judged step place value ∷ []) h (from-append program (start_world program) before (Judged step place value ∷ []) ∙ is) one legal.1
along-one program built budget world before (Wake g ∷ h) is one legal =
    absurd (false≢true (sym (none-waits program world one g) ∙ subst (λ w. is_waiter w g ≡ true) is legal.0))

pub has-one-thread : (program : Program) → is_built program ≡ true → (budget : ℕ) (h : List Event) → IsLegal program budget h → HasOneThread program (world_after program h)
has-one-thread program built budget h legal =
    has-one program (world_after program h)
    (along-one program built budget (start_world program) [] h refl (record { ended = false; guests = refl; free = λ object. refl }) legal)
