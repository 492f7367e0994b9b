-- In a legal history of a well-formed program the heap has exactly the cells of the objects that were made.
use Rattle.std.proofs.Common.{◌≡◌, ◌==◌, ◌&&◌, ◌+◌, ◌<◌, ◌≤◌, ℕ, zero, suc, Bool, true, false, cond, is_some, List, [], ◌∷◌, ◌++◌, map, length, Option, Some, None, slice_get, refl, ap, sym, subst, ◌∙◌, append_assoc, append-nil, nat_lt, arith}
use Rattle.std.specs.List.{range_with_len}
use Rattle.std.proofs.lemmas.Bool.{ltb-true, ltb-false, eqb-true, eqb-false}
use Rattle.jr_base.specs.Deed.{Deed, Put, New, Enter, Exit, Wait, TimedWait, Resume, Notify, NotifyAll, Start, End}
use Rattle.jr_base.specs.declared.number.ClassId.{ClassId}
use Rattle.jr_base.specs.declared.number.GuestNo.{GuestNo}
use Rattle.jr_base.specs.declared.number.ObjId.{ObjId}
use Rattle.jr_base.specs.declared.action.NewKind.{NewKind}
use Rattle.jr_base.specs.declared.action.Reply.{Reply}
use Rattle.jr_base.specs.declared.action.Reply.TheVariants as replies
use Rattle.jr_base.specs.declared.value.Value.{Value}
use Rattle.jr_base.specs.declared.value.Cell.{Cell}
use Rattle.jr_program.specs.Programs.{Program, Field, numbered}
use Rattle.jr_program.specs.Slots.{fields_from, constant_in, class_count}
use Rattle.jr_program.specs.WellFormed.{WellFormed}
use Rattle.jr_meaning.specs.Along.{Along}
use Rattle.jr_meaning.specs.Event.{Event, Step, Judged, Wake}
use Rattle.jr_meaning.specs.World.{World, ClassObject, Made, Guest, Monitor, Hold, Waiter, guest_at, start_world, class_slots, slots_of, next_object, same_object, same_cell}
use Rattle.jr_meaning.specs.Machine.{after, put, put_reply, make, wait, resume, notify, notify_all, start, mark_ended, Answers}
use Rattle.jr_meaning.specs.History.{world_after, MayCome, IsLegal}
use Rattle.jr_meaning.specs.Cells.{has_slot, has_cell}
use Rattle.jr_meaning.proofs.Histories.{world_after-step, world_after-wake}
use Rattle.jr_meaning.proofs.Judging.{world_from-judged}

-- the heap has exactly the cells of its objects
HasItsCells : Program → World → Type 0
HasItsCells program world = (cell : Cell) → is_some (world.cells cell) ≡ has_cell program world cell

-- ---- the start

-- a class that isn't there has no fields
no-fields : (class : ClassId) (is_static : Bool) (n count : ℕ) (fields : List Field) → ((i : ℕ) (field : Field) → slice_get fields i ≡ Some field → field.class.0 < count) → count ≤ class.0 →
    fields_from class is_static n fields ≡ []
no-fields class is_static n count [] all past = refl
no-fields class is_static n count (field ∷ fields) all past = by (field.class.0 == class.0) refl (no-fields class is_static (n + 1) count fields (λ i. all (suc i)) past)
  where
    by : (b : Bool) → (field.class.0 == class.0) ≡ b → fields_from class is_static (n + 1) fields ≡ [] → fields_from class is_static n (field ∷ fields) ≡ []
    by false is rest = rw is rest
    by true is rest = let same = eqb-true field.class.0 class.0 is in let here = all 0 field refl in absurd (omega arith)

object-there : (a c n : ℕ) → n < c → slice_get (map (λ k. ClassObject (record { 0 = k })) (range_with_len a c)) n ≡ Some (ClassObject (record { 0 = a + n }))
object-there a zero n few = absurd (omega arith)
object-there a (suc c) zero few = let same : a ≡ a + 0 = omega arith in ap (λ k. Some (ClassObject (record { 0 = k }))) same
object-there a (suc c) (suc n) few =
    let same : (a + 1) + n ≡ a + suc n = omega arith in object-there (a + 1) c n (omega arith) ∙ ap (λ k. Some (ClassObject (record { 0 = k }))) same

object-past : (a c n : ℕ) → c ≤ n → slice_get (map (λ k. ClassObject (record { 0 = k })) (range_with_len a c)) n ≡ None
object-past a zero n past = refl
object-past a (suc c) zero past = absurd (omega arith)
object-past a (suc c) (suc n) past = object-past (a + 1) c n (omega arith)

start-cells : (program : Program) → WellFormed program → HasItsCells program (start_world program)
unfolding HasItsCells
start-cells program fine cell = by cell.obj.0
  where
    by : (n : ℕ) → is_some (class_slots program n cell.slot) ≡ has_slot program (numbered (map (λ n. ClassObject (record { 0 = n })) (range_with_len 0 (class_count program))) n) cell.slot
    by zero = refl
    by (suc n) = among (nat_lt n (class_count program)) refl
      where
        among : (b : Bool) → nat_lt n (class_count program) ≡ b →
            is_some (constant_in program (record { 0 = n }) true cell.slot) ≡ has_slot program (slice_get (map (λ n. ClassObject (record { 0 = n })) (range_with_len 0 (class_count program))) n) cell.slot
        among true is =
            let there = object-there 0 (class_count program) n (ltb-true n (class_count program) is) in
            let same : 0 + n ≡ n = omega arith in
            sym (ap (λ kind. has_slot program kind cell.slot) (there ∙ ap (λ k. Some (ClassObject (record { 0 = k }))) same))
        among false is =
            let past = ltb-false n (class_count program) is in
            let none = no-fields (record { 0 = n }) true 0 (class_count program) program.fields (λ i field at. (fine.fields (record { 0 = i }) field at).class) past in
            let gone = object-past 0 (class_count program) n past in
            rw (none, gone) refl

-- ---- steps

-- what leaves cells and objects as they are
record Alike (world later : World) : Type 0 where
  cells : later.cells ≡ world.cells
  objects : later.objects ≡ world.objects

alike-cells : (program : Program) (world later : World) → Alike world later → HasItsCells program world → HasItsCells program later
unfolding HasItsCells
alike-cells program world later same has cell =
    ap (λ cells. is_some (cells cell)) same.cells ∙ (has cell ∙ sym (ap (λ objects. has_slot program (numbered objects cell.obj.0) cell.slot) same.objects))

wait-alike : (world : World) (w : Waiter) (object : ObjId) (monitor : Monitor) (hold : Option Hold) (reply : Reply) → Alike world (wait world w object monitor hold reply)
wait-alike world w object monitor None reply = record { cells = refl; objects = refl }
wait-alike world w object monitor (Some hold) replies.Unit = record { cells = refl; objects = refl }
wait-alike world w object monitor (Some hold) _ = record { cells = refl; objects = refl }

resume-alike : (world : World) (g : GuestNo) (object : ObjId) (monitor : Monitor) (depth : Option ℕ) → Alike world (resume world g object monitor depth)
resume-alike world g object monitor None = record { cells = refl; objects = refl }
resume-alike world g object monitor (Some depth) = record { cells = refl; objects = refl }

notify-alike : (world : World) (object : ObjId) (monitor : Monitor) (reply : Reply) → Alike world (notify world object monitor reply)
notify-alike world object monitor (replies.Woke g) = record { cells = refl; objects = refl }
notify-alike world object monitor _ = record { cells = refl; objects = refl }

notify-all-alike : (world : World) (object : ObjId) (monitor : Monitor) (reply : Reply) → Alike world (notify_all world object monitor reply)
notify-all-alike world object monitor replies.Unit = record { cells = refl; objects = refl }
notify-all-alike world object monitor _ = record { cells = refl; objects = refl }

start-alike : (world : World) (object : ObjId) (reply : Reply) → Alike world (start world object reply)
start-alike world object (replies.Started g body) = record { cells = refl; objects = refl }
start-alike world object _ = record { cells = refl; objects = refl }

ended-alike : (world : World) (g : GuestNo) (guest : Option Guest) → Alike world (mark_ended world g guest)
ended-alike world g None = record { cells = refl; objects = refl }
ended-alike world g (Some guest) = record { cells = refl; objects = refl }

-- one object more
last-there : {A : Type 0} (xs : List A) (x : A) → slice_get (xs ++ x ∷ []) (length xs) ≡ Some x
last-there [] x = refl
last-there (y ∷ xs) x = last-there xs x

others-there : {A : Type 0} (xs : List A) (x : A) (n : ℕ) → (n ≡ length xs → ⊥) → slice_get (xs ++ x ∷ []) n ≡ slice_get xs n
others-there [] x zero other = absurd (other refl)
others-there [] x (suc n) other = refl
others-there (y ∷ xs) x zero other = refl
others-there (y ∷ xs) x (suc n) other = others-there xs x n (λ same. other (ap suc same))

number-there : {A : Type 0} (xs : List A) (x : A) (n : ℕ) → (n == length xs + 1) ≡ false → numbered (xs ++ x ∷ []) n ≡ numbered xs n
number-there xs x zero other = refl
number-there xs x (suc n) other = others-there xs x n (λ same. eqb-false (suc n) (length xs + 1) other (let next : suc n ≡ length xs + 1 = omega arith in next))

made-cells : (program : Program) (world : World) (kind : NewKind) → HasItsCells program world → HasItsCells program (make program world kind (replies.Made (next_object world)))
unfolding HasItsCells
made-cells program world kind has cell = by (cell.obj.0 == length world.objects + 1) refl
  where
    by : (b : Bool) → (cell.obj.0 == length world.objects + 1) ≡ b →
        is_some (cond b (slots_of program kind cell.slot) (world.cells cell)) ≡ has_slot program (numbered (world.objects ++ Made kind ∷ []) cell.obj.0) cell.slot
    by true is =
        let next : cell.obj.0 ≡ suc (length world.objects) = let same = eqb-true cell.obj.0 (length world.objects + 1) is in omega arith in
        sym (ap (λ n. has_slot program (numbered (world.objects ++ Made kind ∷ []) n) cell.slot) next ∙ ap (λ k. has_slot program k cell.slot) (last-there world.objects (Made kind)))
    by false is = has cell ∙ ap (λ k. has_slot program k cell.slot) (sym (number-there world.objects (Made kind) cell.obj.0 is))

-- a write to a cell that is there
put-cells : (program : Program) (world : World) (at : Cell) (value : Value) (reply : Reply) → reply ≡ put_reply (world.cells at) → HasItsCells program world → HasItsCells program (put world at value reply)
unfolding HasItsCells
put-cells program world at value reply answer has cell = subst (λ r. is_some ((put world at value r).cells cell) ≡ has_cell program (put world at value r) cell) (sym answer) (by (world.cells at) refl)
  where
    by : (o : Option Value) → world.cells at ≡ o → is_some ((put world at value (put_reply o)).cells cell) ≡ has_cell program (put world at value (put_reply o)) cell
    by None is = has cell
    by (Some old) is = among (same_cell cell at) refl
      where
        among : (b : Bool) → same_cell cell at ≡ b → is_some (cond b (Some value) (world.cells cell)) ≡ has_slot program (numbered world.objects cell.obj.0) cell.slot
        among false e = has cell
        among true e = sym (ap is_some (ap world.cells (same-cell cell at e) ∙ is)) ∙ has cell
          where
            halves : (a b : Bool) → (a && b) ≡ true → (a ≡ true) × (b ≡ true)
            halves true true e = (refl, refl)
            halves true false e = cc
            halves false b e = cc

            same-cell : (a b : Cell) → same_cell a b ≡ true → a ≡ b
            same-cell a b e =
                let parts = halves (same_object a.obj b.obj) (a.slot == b.slot) e in
                let object : a.obj.0 ≡ b.obj.0 = eqb-true a.obj.0 b.obj.0 parts.0 in
                let slot : a.slot ≡ b.slot = eqb-true a.slot b.slot parts.1 in
                λ i. record { obj = record { 0 = object i }; slot = slot i }

step-cells : (program : Program) (world : World) (g : GuestNo) (deed : Deed) (reply : Reply) → Answers program world g deed reply → HasItsCells program world →
    HasItsCells program (after program world g deed reply)
step-cells program world g (Put at value) reply answer has = put-cells program world at value reply answer has
step-cells program world g (New kind) reply answer has = subst (λ r. HasItsCells program (make program world kind r)) (sym answer) (made-cells program world kind has)
step-cells program world g (Enter o way) reply answer has = alike-cells program world _ (record { cells = refl; objects = refl }) has
step-cells program world g (Exit o) reply answer has = alike-cells program world _ (record { cells = refl; objects = refl }) has
step-cells program world g (Wait o) reply answer has = alike-cells program world _ (wait-alike world _ o (world.monitors o) (world.monitors o).hold reply) has
step-cells program world g (TimedWait o) reply answer has = alike-cells program world _ (wait-alike world _ o (world.monitors o) (world.monitors o).hold reply) has
step-cells program world g (Resume o) reply answer has = alike-cells program world _ (resume-alike world g o (world.monitors o) ((world.monitors o).kept g)) has
step-cells program world g (Notify o) reply answer has = alike-cells program world _ (notify-alike world o (world.monitors o) reply) has
step-cells program world g (NotifyAll o) reply answer has = alike-cells program world _ (notify-all-alike world o (world.monitors o) reply) has
step-cells program world g (Start o) reply answer has = alike-cells program world _ (start-alike world o reply) has
step-cells program world g (End how) reply answer has = alike-cells program world _ (ended-alike world g (guest_at world g)) has
step-cells program world g _ reply answer has = has

-- ---- histories

along-cells : (program : Program) (budget : ℕ) (before h : List Event) → HasItsCells program (world_after program before) → Along (MayCome program budget) before h →
    HasItsCells program (world_after program (before ++ h))
along-cells program budget before [] has legal = subst (λ es. HasItsCells program (world_after program es)) (sym (append-nil before)) has
along-cells program budget before (Step s deed reply ∷ h) has legal =
    subst (λ es. HasItsCells program (world_after program es)) (append_assoc before (Step s deed reply ∷ []) h)
    (along-cells program budget (before ++ Step s deed reply ∷ []) h
    (subst (HasItsCells program) (sym (world_after-step program before s deed reply)) (step-cells program (world_after program before) s deed reply legal.0.answer has)) legal.1)
along-cells program budget before (Judged t p v ∷ h) has legal =
    subst (λ es. HasItsCells program (world_after program es)) (append_assoc before (Judged t p v ∷ []) h)
    (along-cells program budget (before ++ Judged t p v ∷ []) h
    (subst (HasItsCells program) (sym (world_from-judged program (start_world program) before t p (v ∷ []))) has) legal.1)
along-cells program budget before (Wake w ∷ h) has legal =
    subst (λ es. HasItsCells program (world_after program es)) (append_assoc before (Wake w ∷ []) h)
    (along-cells program budget (before ++ Wake w ∷ []) h
    (subst (HasItsCells program) (sym (world_after-wake program before w)) (alike-cells program (world_after program before) _ (record { cells = refl; objects = refl }) has)) legal.1)

pub cells-belong : (program : Program) → WellFormed program → (budget : ℕ) (h : List Event) → IsLegal program budget h → (cell : Cell) →
    is_some ((world_after program h).cells cell) ≡ has_cell program (world_after program h) cell
unfolding HasItsCells
cells-belong program fine budget h legal cell = along-cells program budget [] h (start-cells program fine) legal cell
