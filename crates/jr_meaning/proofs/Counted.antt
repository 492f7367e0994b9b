-- In a legal history no more objects and cells are made than the limits allow. The objects of classes and their cells are
-- there from the start, however many.
use Rattle.std.proofs.Common.{◌≡◌, ◌+◌, ◌≤◌, ◌<◌, ℕ, Bool, true, false, cond, List, [], ◌∷◌, ◌++◌, length, max, Option, Some, None, refl, sym, subst, append_assoc, append-nil, arith, length-append}
use Rattle.std.specs.List.{find}
use Rattle.std.specs.Prelude.{nat_lt, sum_by}
use Rattle.std.proofs.Math.Nat.{le-max_left, le-max_right}
use Rattle.std.proofs.lemmas.List.FromFn.{length-map-range_with_len}
use Rattle.std.proofs.lemmas.Bool.{ltb-false, lt-ltb}
use Rattle.std.proofs.lemmas.List.Sums.{sum_by_push}
use Rattle.jr_base.specs.Deed.{Deed, Put, New, Enter, Exit, Wait, TimedWait, Resume, Notify, NotifyAll, Start, End}
use Rattle.jr_base.specs.declared.number.GuestNo.{GuestNo}
use Rattle.jr_base.specs.declared.number.ObjId.{ObjId}
use Rattle.jr_base.specs.declared.action.NewKind.{NewKind}
use Rattle.jr_base.specs.declared.action.Reply.{Reply}
use Rattle.jr_base.specs.declared.action.Reply.TheVariants as replies
use Rattle.jr_base.specs.declared.value.Value.{Value}
use Rattle.jr_base.specs.declared.value.Cell.{Cell}
use Rattle.jr_base.specs.declared.finish.LimitKind.TheVariants.{Objects, Cells}
use Rattle.jr_program.specs.Programs.{Program}
use Rattle.jr_meaning.specs.Along.{Along}
use Rattle.jr_meaning.specs.Event.{Event, Step, Judged, Wake}
use Rattle.jr_meaning.specs.World.{World, ObjectKind, ClassObject, Made, Guest, Monitor, Hold, Waiter, guest_at, start_world}
use Rattle.jr_meaning.specs.Machine.{after, put, make, wait, resume, notify, notify_all, start, mark_ended}
use Rattle.jr_program.specs.Slots.{class_count}
use Rattle.jr_meaning.specs.Frames.{frames_of}
use Rattle.jr_meaning.specs.Limits.{Count, is_past, past_limit, cells_in, cell_count}
use Rattle.jr_meaning.specs.History.{world_after, MayCome, IsLegal}
use Rattle.jr_meaning.proofs.Histories.{world_after-step, world_after-wake}
use Rattle.jr_meaning.proofs.Judging.{world_from-judged}

-- ---- what leaves the objects as they are

put-objects : (world : World) (cell : Cell) (value : Value) (reply : Reply) → (put world cell value reply).objects ≡ world.objects
put-objects world cell value replies.Unit = refl
put-objects world cell value _ = refl

wait-objects : (world : World) (w : Waiter) (object : ObjId) (monitor : Monitor) (hold : Option Hold) (reply : Reply) → (wait world w object monitor hold reply).objects ≡ world.objects
wait-objects world w object monitor None reply = refl
wait-objects world w object monitor (Some hold) replies.Unit = refl
wait-objects world w object monitor (Some hold) _ = refl

resume-objects : (world : World) (g : GuestNo) (object : ObjId) (monitor : Monitor) (depth : Option ℕ) → (resume world g object monitor depth).objects ≡ world.objects
resume-objects world g object monitor None = refl
resume-objects world g object monitor (Some depth) = refl

notify-objects : (world : World) (object : ObjId) (monitor : Monitor) (reply : Reply) → (notify world object monitor reply).objects ≡ world.objects
notify-objects world object monitor (replies.Woke g) = refl
notify-objects world object monitor _ = refl

notify-all-objects : (world : World) (object : ObjId) (monitor : Monitor) (reply : Reply) → (notify_all world object monitor reply).objects ≡ world.objects
notify-all-objects world object monitor replies.Unit = refl
notify-all-objects world object monitor _ = refl

start-objects : (world : World) (object : ObjId) (reply : Reply) → (start world object reply).objects ≡ world.objects
start-objects world object (replies.Started g body) = refl
start-objects world object _ = refl

ended-objects : (world : World) (g : GuestNo) (guest : Option Guest) → (mark_ended world g guest).objects ≡ world.objects
ended-objects world g None = refl
ended-objects world g (Some guest) = refl

-- ---- within the limits

not-past : (a b : Count) → find is_past (a ∷ b ∷ []) ≡ None → (is_past a ≡ false) × (is_past b ≡ false)
not-past a b none = by (is_past a) refl (is_past b) refl none
  where
    by : (p : Bool) → is_past a ≡ p → (q : Bool) → is_past b ≡ q → cond p (Some a) (cond q (Some b) None) ≡ None → (is_past a ≡ false) × (is_past b ≡ false)
    by true x q y none = cc
    by false x true y none = cc
    by false x false y none = (x, y)

-- at most as many as are allowed, or as stood there at the start
record Few (program : Program) (objects : List ObjectKind) : Type 0 where
  objects_few : length objects ≤ max 65536 (class_count program)
  cells_few : sum_by (cells_in program) objects ≤ max 1048576 (cell_count program (start_world program))

few-made : (program : Program) (world : World) (frames : ℕ) (g : GuestNo) (kind : NewKind) (reply : Reply) → Few program world.objects →
    past_limit program world frames g (New kind) ≡ None → Few program (make program world kind reply).objects
few-made program world frames g kind (replies.Made object) few none = record {
  objects_few = omega (
    arith,
    length-append world.objects (Made kind ∷ []),
    ltb-false 65536 (length world.objects + 1) parts.0,
    le-max_left 65536 (class_count program),
  );
  cells_few = omega (
    arith,
    sum_by_push (cells_in program) world.objects (Made kind),
    ltb-false 1048576 (cell_count program world + cells_in program (Made kind)) parts.1,
    le-max_left 1048576 (cell_count program (start_world program)),
  );
}
  where
    parts : (is_past (record { kind = Objects; count = length world.objects + 1 }) ≡ false)
        × (is_past (record { kind = Cells; count = cell_count program world + cells_in program (Made kind) }) ≡ false)
    parts = not-past (record { kind = Objects; count = length world.objects + 1 }) (record { kind = Cells; count = cell_count program world + cells_in program (Made kind) }) none
few-made program world frames g kind _ few none = few

few-step : (program : Program) (world : World) (frames : ℕ) (g : GuestNo) (deed : Deed) (reply : Reply) → Few program world.objects → past_limit program world frames g deed ≡ None →
    Few program (after program world g deed reply).objects
few-step program world frames g (New kind) reply few none = few-made program world frames g kind reply few none
few-step program world frames g (Put cell value) reply few none = subst (Few program) (sym (put-objects world cell value reply)) few
few-step program world frames g (Wait o) reply few none =
    subst (Few program) (sym (wait-objects world (record { guest = g; is_timed = false }) o (world.monitors o) (world.monitors o).hold reply)) few
few-step program world frames g (TimedWait o) reply few none =
    subst (Few program) (sym (wait-objects world (record { guest = g; is_timed = true }) o (world.monitors o) (world.monitors o).hold reply)) few
few-step program world frames g (Resume o) reply few none = subst (Few program) (sym (resume-objects world g o (world.monitors o) ((world.monitors o).kept g))) few
few-step program world frames g (Notify o) reply few none = subst (Few program) (sym (notify-objects world o (world.monitors o) reply)) few
few-step program world frames g (NotifyAll o) reply few none = subst (Few program) (sym (notify-all-objects world o (world.monitors o) reply)) few
few-step program world frames g (Start o) reply few none = subst (Few program) (sym (start-objects world o reply)) few
few-step program world frames g (End how) reply few none = subst (Few program) (sym (ended-objects world g (guest_at world g))) few
few-step program world frames g (Enter o way) reply few none = few
few-step program world frames g (Exit o) reply few none = few
few-step program world frames g _ reply few none = few

along-few : (program : Program) (budget : ℕ) (before h : List Event) → Few program (world_after program before).objects → Along (MayCome program budget) before h →
    Few program (world_after program (before ++ h)).objects
along-few program budget before [] few legal = subst (λ es. Few program (world_after program es).objects) (sym (append-nil before)) few
along-few program budget before (Step s deed reply ∷ h) few legal =
    subst (λ es. Few program (world_after program es).objects) (append_assoc before (Step s deed reply ∷ []) h)
    (along-few program budget (before ++ Step s deed reply ∷ []) h
    (subst (λ w. Few program w.objects) (sym (world_after-step program before s deed reply))
    (few-step program (world_after program before) (length (frames_of before s)) s deed reply few legal.0.within_limits)) legal.1)
along-few program budget before (Judged t p v ∷ h) few legal =
    subst (λ es. Few program (world_after program es).objects) (append_assoc before (Judged t p v ∷ []) h)
    (along-few program budget (before ++ Judged t p v ∷ []) h
    (subst (λ w. Few program w.objects) (sym (world_from-judged program (start_world program) before t p (v ∷ []))) few) legal.1)
along-few program budget before (Wake w ∷ h) few legal =
    subst (λ es. Few program (world_after program es).objects) (append_assoc before (Wake w ∷ []) h)
    (along-few program budget (before ++ Wake w ∷ []) h (subst (λ w. Few program w.objects) (sym (world_after-wake program before w)) few) legal.1)

all-few : (program : Program) (budget : ℕ) (h : List Event) → IsLegal program budget h → Few program (world_after program h).objects
all-few program budget h legal = along-few program budget [] h (record {
  objects_few =
      omega (arith, length-map-range_with_len (λ n. ClassObject (record { 0 = n })) 0 (class_count program), le-max_right 65536 (class_count program));
  cells_few = le-max_right 1048576 (cell_count program (start_world program));
}) legal

pub few-objects : (program : Program) (budget : ℕ) (h : List Event) → IsLegal program budget h → length (world_after program h).objects ≤ max 65536 (class_count program)
few-objects program budget h legal = (all-few program budget h legal).objects_few

pub few-cells : (program : Program) (budget : ℕ) (h : List Event) → IsLegal program budget h →
    cell_count program (world_after program h) ≤ max 1048576 (cell_count program (start_world program))
few-cells program budget h legal = (all-few program budget h legal).cells_few

-- where both would be past their limits, it is the objects that are named
pub objects-first : (program : Program) (world : World) (frames : ℕ) (g : GuestNo) (kind : NewKind) → 65536 < length world.objects + 1 →
    past_limit program world frames g (New kind) ≡ Some (record { kind = Objects; count = length world.objects + 1 })
objects-first program world frames g kind past = let is : nat_lt 65536 (length world.objects + 1) ≡ true = lt-ltb 65536 (length world.objects + 1) past in rw is refl
