-- Which entry of a journal made an object.
use Rattle.std.proofs.Common.{◌≡◌, ◌+◌, ◌≤◌, ◌<◌, ℕ, zero, suc, cond, Bool, true, false, List, [], ◌∷◌, ◌++◌, map, take, drop, length, Option, Some, None, slice_get, refl, ap, sym, subst, ◌∙◌, arith, append_assoc, append-nil}
use Rattle.std.specs.List.{range_with_len}
use Rattle.std.specs.Prelude.{is_some}
use Rattle.std.proofs.lemmas.List.{take-append-drop, length-take-le}
use Rattle.jr_base.specs.Deed.{Deed}
use Rattle.jr_base.specs.Deed.{Get, Put, New, Wait, TimedWait, Resume, Notify, NotifyAll, Start, End}
use Rattle.jr_base.specs.declared.number.GuestNo.{GuestNo}
use Rattle.jr_base.specs.declared.number.ObjId.{ObjId}
use Rattle.jr_base.specs.declared.action.NewKind.{NewKind}
use Rattle.jr_base.specs.declared.action.NewKind.TheVariants as kinds
use Rattle.jr_base.specs.declared.action.Reply.{Reply}
use Rattle.jr_base.specs.declared.action.Reply.TheVariants as replies
use Rattle.jr_base.specs.declared.value.Value.{Value}
use Rattle.jr_base.specs.declared.value.Cell.{Cell}
use Rattle.jr_program.specs.Programs.{Program}
use Rattle.jr_program.specs.Slots.{class_count}
use Rattle.jr_meaning.specs.Along.{Along}
use Rattle.jr_meaning.specs.Event.{Event, Step, Judged, Wake}
use Rattle.jr_meaning.specs.World.{World, Guest, Monitor, Hold, Waiter, ObjectKind, ClassObject, Made, guest_at, guest_of, start_world}
use Rattle.jr_meaning.specs.Machine.{Answers, Allows, after, get_reply, put_reply, owner_reply, notify_answer, put, make, wait, resume, notify, notify_all, start, mark_ended, owns, wake}
use Rattle.jr_meaning.specs.History.{MayCome, IsLegal, world_from, world_after}
use Rattle.jr_meaning.specs.Due.{field_of_kind}
use Rattle.jr_journal.specs.Entries.{made_at, make_places_from, make_place_of}
use Rattle.jr_report.specs.Sites.{field_of_home, home_made}

pub none-some : {A : Type 0} {x : A} → None ≡ Some x → ⊥
none-some e = cc

pub same-some : {A : Type 0} {x y : A} → Some x ≡ Some y → x ≡ y
same-some e = cc

-- ---- only a New makes an object

get-made : (value : Option Value) (o : ObjId) → replies.Made o ≡ get_reply value → ⊥
get-made None o e = cc
get-made (Some value) o e = cc

put-made : (value : Option Value) (o : ObjId) → replies.Made o ≡ put_reply value → ⊥
put-made None o e = cc
put-made (Some value) o e = cc

owner-made : (b : Bool) (o : ObjId) → replies.Made o ≡ owner_reply b → ⊥
owner-made true o e = cc
owner-made false o e = cc

notify-made : (b : Bool) (waiters : List Waiter) (o : ObjId) → Allows (notify_answer b waiters) (replies.Made o) → ⊥
notify-made false waiters o e = cc
notify-made true [] o e = cc
notify-made true (w ∷ waiters) o e = let f = e.1 in cc

start-made : (b : Bool) (other : Reply) (o : ObjId) → (replies.Made o ≡ other → ⊥) → replies.Made o ≡ cond b replies.Illegal other → ⊥
start-made true other o apart e = cc
start-made false other o apart e = apart e

made-by-new : (program : Program) (world : World) (g : GuestNo) (deed : Deed) (o : ObjId) → Answers program world g deed (replies.Made o) → (kind : NewKind) × (deed ≡ New kind)
made-by-new program world g (New kind) o e = (kind, refl)
made-by-new program world g (Get cell) o e = absurd (get-made (world.cells cell) o e)
made-by-new program world g (Put cell value) o e = absurd (put-made (world.cells cell) o e)
made-by-new program world g (Wait object) o e = absurd (owner-made (owns world g object) o e)
made-by-new program world g (TimedWait object) o e = absurd (owner-made (owns world g object) o e)
made-by-new program world g (Notify object) o e = absurd (notify-made (owns world g object) (world.monitors object).waiting o e)
made-by-new program world g (NotifyAll object) o e = absurd (owner-made (owns world g object) o e)
made-by-new program world g (Start object) o e = absurd (start-made (is_some (guest_of world object)) _ o (λ f. cc) e)
made-by-new program world g _ o e = cc

MadesAreNew : Event → Type 0
MadesAreNew (Step g deed (replies.Made o)) = (kind : NewKind) × (deed ≡ New kind)
MadesAreNew _ = Unit {0}

AllMadesAreNew : List Event → Type 0
AllMadesAreNew [] = Unit {0}
AllMadesAreNew (e ∷ h) = MadesAreNew e × AllMadesAreNew h

step-made : (program : Program) (world : World) (g : GuestNo) (deed : Deed) (reply : Reply) → Answers program world g deed reply → MadesAreNew (Step g deed reply)
unfolding MadesAreNew
step-made program world g deed (replies.Made o) e = made-by-new program world g deed o e
step-made program world g deed _ e = tt

all-made : (program : Program) (budget : ℕ) (before h : List Event) → Along (MayCome program budget) before h → AllMadesAreNew h
unfolding AllMadesAreNew MadesAreNew
all-made program budget before [] legal = tt
all-made program budget before (Step g deed reply ∷ h) legal =
    (step-made program (world_after program before) g deed reply legal.0.answer, all-made program budget (before ++ Step g deed reply ∷ []) h legal.1)
all-made program budget before (Judged step place value ∷ h) legal = (tt, all-made program budget (before ++ Judged step place value ∷ []) h legal.1)
all-made program budget before (Wake g ∷ h) legal = (tt, all-made program budget (before ++ Wake g ∷ []) h legal.1)

-- ---- the objects are those of the classes, and those that were made

made_by : Deed → List ObjectKind
made_by (New kind) = Made kind ∷ []
made_by _ = []

made_in : Event → List ObjectKind
made_in (Step g deed (replies.Made o)) = made_by deed
made_in _ = []

made_of : List Event → List ObjectKind
made_of [] = []
made_of (e ∷ h) = made_in e ++ made_of h

put-objects : (world : World) (cell : Cell) (value : Value) (reply : Reply) → (put world cell value reply).objects ≡ world.objects
put-objects world cell value replies.Unit = refl
put-objects world cell value _ = refl

wait-objects : (world : World) (w : Waiter) (object : ObjId) (monitor : Monitor) (hold : Option Hold) (reply : Reply) → (wait world w object monitor hold reply).objects ≡ world.objects
wait-objects world w object monitor None reply = refl
wait-objects world w object monitor (Some hold) replies.Unit = refl
wait-objects world w object monitor (Some hold) _ = refl

resume-objects : (world : World) (g : GuestNo) (object : ObjId) (monitor : Monitor) (depth : Option ℕ) → (resume world g object monitor depth).objects ≡ world.objects
resume-objects world g object monitor None = refl
resume-objects world g object monitor (Some depth) = refl

notify-objects : (world : World) (object : ObjId) (monitor : Monitor) (reply : Reply) → (notify world object monitor reply).objects ≡ world.objects
notify-objects world object monitor (replies.Woke g) = refl
notify-objects world object monitor _ = refl

notify-all-objects : (world : World) (object : ObjId) (monitor : Monitor) (reply : Reply) → (notify_all world object monitor reply).objects ≡ world.objects
notify-all-objects world object monitor replies.Unit = refl
notify-all-objects world object monitor _ = refl

start-objects : (world : World) (object : ObjId) (reply : Reply) → (start world object reply).objects ≡ world.objects
start-objects world object (replies.Started g body) = refl
start-objects world object _ = refl

ended-objects : (world : World) (g : GuestNo) (guest : Option Guest) → (mark_ended world g guest).objects ≡ world.objects
ended-objects world g None = refl
ended-objects world g (Some guest) = refl

make-objects : (program : Program) (world : World) (g : GuestNo) (kind : NewKind) (reply : Reply) → (make program world kind reply).objects ≡ world.objects ++ made_in (Step g (New kind) reply)
unfolding made_in made_by
make-objects program world g kind (replies.Made o) = refl
make-objects program world g kind _ = sym (append-nil world.objects)

not-new : (g : GuestNo) (deed : Deed) (reply : Reply) → made_by deed ≡ [] → made_in (Step g deed reply) ≡ []
unfolding made_in
not-new g deed (replies.Made o) e = e
not-new g deed _ e = refl

none-more : (old new : List ObjectKind) (g : GuestNo) (deed : Deed) (reply : Reply) → made_by deed ≡ [] → new ≡ old → new ≡ old ++ made_in (Step g deed reply)
none-more old new g deed reply none e = e ∙ sym (append-nil old) ∙ ap (λ l. old ++ l) (sym (not-new g deed reply none))

step-objects : (program : Program) (world : World) (g : GuestNo) (deed : Deed) (reply : Reply) → (after program world g deed reply).objects ≡ world.objects ++ made_in (Step g deed reply)
unfolding made_by
step-objects program world g (Put cell value) reply = none-more _ _ g (Put cell value) reply refl (put-objects world cell value reply)
step-objects program world g (New kind) reply = make-objects program world g kind reply
step-objects program world g (Wait object) reply = none-more _ _ g (Wait object) reply refl (wait-objects world _ object (world.monitors object) (world.monitors object).hold reply)
step-objects program world g (TimedWait object) reply = none-more _ _ g (TimedWait object) reply refl (wait-objects world _ object (world.monitors object) (world.monitors object).hold reply)
step-objects program world g (Resume object) reply = none-more _ _ g (Resume object) reply refl (resume-objects world g object (world.monitors object) ((world.monitors object).kept g))
step-objects program world g (Notify object) reply = none-more _ _ g (Notify object) reply refl (notify-objects world object (world.monitors object) reply)
step-objects program world g (NotifyAll object) reply = none-more _ _ g (NotifyAll object) reply refl (notify-all-objects world object (world.monitors object) reply)
step-objects program world g (Start object) reply = none-more _ _ g (Start object) reply refl (start-objects world object reply)
step-objects program world g (End how) reply = none-more _ _ g (End how) reply refl (ended-objects world g (guest_at world g))
step-objects program world g deed reply = none-more world.objects world.objects g deed reply refl refl

from-objects : (program : Program) (world : World) (h : List Event) → (world_from program world h).objects ≡ world.objects ++ made_of h
unfolding made_of made_in
from-objects program world [] = sym (append-nil world.objects)
from-objects program world (Step g deed reply ∷ h) =
    from-objects program (after program world g deed reply) h
    ∙ ap (λ os. os ++ made_of h) (step-objects program world g deed reply)
    ∙ append_assoc world.objects (made_in (Step g deed reply)) (made_of h)
from-objects program world (Judged step place value ∷ h) = from-objects program world h
from-objects program world (Wake g ∷ h) = from-objects program (wake world g) h

-- ---- where they were made

-- an entry that makes an object of that kind
record Makes (e : Event) (kind : NewKind) : Type 0 where
  guest : GuestNo
  reply : Reply
  is : e ≡ Step guest (New kind) reply

-- the n-th object was made at a place past a number of entries
record MadeAt (at : ℕ) (h : List Event) (n place : ℕ) : Type 0 where
  behind : ℕ
  apart : place ≡ at + behind
  kind : NewKind
  entry : Event
  there : slice_get h behind ≡ Some entry
  makes : Makes entry kind
  object : slice_get (made_of h) n ≡ Some (Made kind)

further : (at : ℕ) (h : List Event) (e : Event) (n m place : ℕ) → slice_get (made_of (e ∷ h)) m ≡ slice_get (made_of h) n → MadeAt (at + 1) h n place → MadeAt at (e ∷ h) m place
further at h e n m place same found = record {
  behind = suc found.behind;
  apart = (let f = found.apart in omega (arith, f));
  kind = found.kind;
  entry = found.entry;
  there = found.there;
  makes = found.makes;
  object = same ∙ found.object;
}

made-at : (at : ℕ) (h : List Event) → AllMadesAreNew h → (n place : ℕ) → slice_get (make_places_from at h) n ≡ Some place → MadeAt at h n place
unfolding AllMadesAreNew MadesAreNew made_of made_in made_by
made-at at [] all n place e = cc
made-at at (Judged step p value ∷ h) all n place e = further at h (Judged step p value) n n place refl (made-at (at + 1) h all.1 n place e)
made-at at (Wake g ∷ h) all n place e = further at h (Wake g) n n place refl (made-at (at + 1) h all.1 n place e)
made-at at (Step g deed (replies.Made o) ∷ h) all zero place e =
    let here : at ≡ place = cc in
    record {
      behind = 0;
      apart = omega (arith, here);
      kind = all.0.0;
      entry = Step g deed (replies.Made o);
      there = refl;
      makes = record { guest = g; reply = replies.Made o; is = ap (λ d. Step g d (replies.Made o)) all.0.1 };
      object = ap (λ d. slice_get (made_by d ++ made_of h) 0) all.0.1;
    }
made-at at (Step g deed (replies.Made o) ∷ h) all (suc n) place e =
    further at h (Step g deed (replies.Made o)) n (suc n) place (ap (λ d. slice_get (made_by d ++ made_of h) (suc n)) all.0.1) (made-at (at + 1) h all.1 n place e)
made-at at (Step g deed reply ∷ h) all n place e = further at h (Step g deed reply) n n place refl (made-at (at + 1) h all.1 n place e)

-- as many objects as places
made-none : (at : ℕ) (h : List Event) → AllMadesAreNew h → (n : ℕ) → slice_get (make_places_from at h) n ≡ None → slice_get (made_of h) n ≡ None
unfolding AllMadesAreNew MadesAreNew made_of made_in made_by
made-none at [] all n e = refl
made-none at (Judged step p value ∷ h) all n e = made-none (at + 1) h all.1 n e
made-none at (Wake g ∷ h) all n e = made-none (at + 1) h all.1 n e
made-none at (Step g deed (replies.Made o) ∷ h) all zero e = cc
made-none at (Step g deed (replies.Made o) ∷ h) all (suc n) e = ap (λ d. slice_get (made_by d ++ made_of h) (suc n)) all.0.1 ∙ made-none (at + 1) h all.1 n e
made-none at (Step g deed reply ∷ h) all n e = made-none (at + 1) h all.1 n e

-- ---- of a part of a history

places-append : (at : ℕ) (h more : List Event) → make_places_from at (h ++ more) ≡ make_places_from at h ++ make_places_from (at + length h) more
places-append at [] more = ap (λ n. make_places_from n more) (let e : at ≡ at + 0 = omega arith in e)
places-append at (Judged step p value ∷ h) more = places-append (at + 1) h more ∙ ap (λ n. make_places_from (at + 1) h ++ make_places_from n more) (let e : (at + 1) + length h ≡ at + suc (length h) = omega arith in e)
places-append at (Wake g ∷ h) more = places-append (at + 1) h more ∙ ap (λ n. make_places_from (at + 1) h ++ make_places_from n more) (let e : (at + 1) + length h ≡ at + suc (length h) = omega arith in e)
places-append at (Step g deed reply ∷ h) more =
    ap (λ l. made_at at reply ++ l) (places-append (at + 1) h more ∙ ap (λ n. make_places_from (at + 1) h ++ make_places_from n more) (let e : (at + 1) + length h ≡ at + suc (length h) = omega arith in e))
    ∙ sym (append_assoc (made_at at reply) (make_places_from (at + 1) h) (make_places_from (at + suc (length h)) more))

-- no place is before the first
not-before : (at : ℕ) (h : List Event) (n place : ℕ) → slice_get (make_places_from at h) n ≡ Some place → at ≤ place
not-before at [] n place e = cc
not-before at (Judged step p value ∷ h) n place e = let rest = not-before (at + 1) h n place e in omega (arith, rest)
not-before at (Wake g ∷ h) n place e = let rest = not-before (at + 1) h n place e in omega (arith, rest)
not-before at (Step g deed (replies.Made o) ∷ h) zero place e = let here : at ≡ place = cc in omega (arith, here)
not-before at (Step g deed (replies.Made o) ∷ h) (suc n) place e = let rest = not-before (at + 1) h n place e in omega (arith, rest)
not-before at (Step g deed reply ∷ h) n place e = let rest = not-before (at + 1) h n place e in omega (arith, rest)

-- nor past the last
not-past : (at : ℕ) (h : List Event) (n place : ℕ) → slice_get (make_places_from at h) n ≡ Some place → place < at + length h
not-past at [] n place e = cc
not-past at (Judged step p value ∷ h) n place e = let rest = not-past (at + 1) h n place e in omega (arith, rest)
not-past at (Wake g ∷ h) n place e = let rest = not-past (at + 1) h n place e in omega (arith, rest)
not-past at (Step g deed (replies.Made o) ∷ h) zero place e = let here : at ≡ place = cc in omega (arith, here)
not-past at (Step g deed (replies.Made o) ∷ h) (suc n) place e = let rest = not-past (at + 1) h n place e in omega (arith, rest)
not-past at (Step g deed reply ∷ h) n place e = let rest = not-past (at + 1) h n place e in omega (arith, rest)

get-front : {A : Type 0} (xs ys : List A) (n : ℕ) (x : A) → slice_get xs n ≡ Some x → slice_get (xs ++ ys) n ≡ Some x
get-front [] ys n x e = cc
get-front (y ∷ xs) ys zero x e = e
get-front (y ∷ xs) ys (suc n) x e = get-front xs ys n x e

-- what stands at a place of a whole and not in its front stands behind
get-behind : {A : Type 0} (xs ys : List A) (n : ℕ) (x : A) → slice_get xs n ≡ None → slice_get (xs ++ ys) n ≡ Some x → (m : ℕ) × (slice_get ys m ≡ Some x)
get-behind [] ys n x none e = (n, e)
get-behind (y ∷ xs) ys zero x none e = cc
get-behind (y ∷ xs) ys (suc n) x none e = get-behind xs ys n x none e

get-past : {A : Type 0} (xs ys : List A) (n : ℕ) → slice_get (xs ++ ys) (length xs + n) ≡ slice_get ys n
get-past [] ys n = ap (slice_get ys) (let e : 0 + n ≡ n = omega arith in e)
get-past (x ∷ xs) ys n = ap (slice_get (x ∷ (xs ++ ys))) (let e : suc (length xs) + n ≡ suc (length xs + n) = omega arith in e) ∙ get-past xs ys n

module _ (h : List Event) (at : ℕ) (within : at ≤ length h) where
  whole : take at h ++ drop at h ≡ h
  whole = take-append-drop at h

  front : length (take at h) ≡ at
  front = length-take-le at h within

  -- which places of the whole are places of the front
  in-front : (n place : ℕ) → make_place_of h n ≡ Some place → place < at → make_place_of (take at h) n ≡ Some place
  in-front n place e before = by (make_place_of (take at h) n) refl
    where
      all : slice_get (make_places_from 0 (take at h) ++ make_places_from (0 + length (take at h)) (drop at h)) n ≡ Some place
      all = ap (λ l. slice_get l n) (sym (places-append 0 (take at h) (drop at h))) ∙ ap (λ es. make_place_of es n) whole ∙ e

      by : (o : Option ℕ) → make_place_of (take at h) n ≡ o → make_place_of (take at h) n ≡ Some place
      by (Some p) is = is ∙ (sym (get-front (make_places_from 0 (take at h)) _ n p is) ∙ all)
      by None is =
          let later = get-behind (make_places_from 0 (take at h)) _ n place is all in
          let past = not-before (0 + length (take at h)) (drop at h) later.0 place later.1 in
          absurd (omega (arith, past, front, before))

  -- what isn't a place before isn't one of the front
  not-in-front : (n : ℕ) → ((place : ℕ) → make_place_of h n ≡ Some place → at ≤ place) → make_place_of (take at h) n ≡ None
  not-in-front n late = by (make_place_of (take at h) n) refl
    where
      by : (o : Option ℕ) → make_place_of (take at h) n ≡ o → make_place_of (take at h) n ≡ None
      by None is = is
      by (Some p) is =
          let there : make_place_of h n ≡ Some p =
          ap (λ es. make_place_of es n) (sym whole) ∙ ap (λ l. slice_get l n) (places-append 0 (take at h) (drop at h))
          ∙ get-front (make_places_from 0 (take at h)) _ n p is in
          let past = not-past 0 (take at h) n p is in
          let behind = late p there in
          absurd (omega (arith, past, front, behind))

-- ---- the fields of what was made

kind-fits : (program : Program) (slot : ℕ) (guest : GuestNo) (kind : NewKind) (reply : Reply) →
    field_of_home program slot (home_made (Step guest (New kind) reply)) ≡ field_of_kind program (Some (Made kind)) slot
kind-fits program slot guest (kinds.Object class) reply = refl
kind-fits program slot guest kinds.Thread reply = refl
kind-fits program slot guest kinds.Plain reply = refl
kind-fits program slot guest (kinds.Array elem n) reply = refl

class-objects : ℕ → List ObjectKind
class-objects n = map (λ n. ClassObject (record { 0 = n })) (range_with_len 0 n)

length-classes : (from n : ℕ) → length (map (λ n. ClassObject (record { 0 = n })) (range_with_len from n)) ≡ n
length-classes from zero = refl
length-classes from (suc n) = let e = length-classes (from + 1) n in omega (arith, e)

class-at : (from n k : ℕ) → k < n → slice_get (map (λ n. ClassObject (record { 0 = n })) (range_with_len from n)) k ≡ Some (ClassObject (record { 0 = from + k }))
class-at from zero k below = absurd (omega (arith, below))
class-at from (suc n) zero below = ap (λ m. Some (ClassObject (record { 0 = m }))) (let e : from ≡ from + 0 = omega arith in e)
class-at from (suc n) (suc k) below =
    class-at (from + 1) n k (omega (arith, below)) ∙ ap (λ m. Some (ClassObject (record { 0 = m }))) (let e : (from + 1) + k ≡ from + suc k = omega arith in e)

module _ (program : Program) (h : List Event) where
  abbrev objects_there : List ObjectKind
  objects_there = (world_after program h).objects

  made-object : (n : ℕ) → slice_get objects_there (class_count program + n) ≡ slice_get (made_of h) n
  made-object n =
      ap (λ l. slice_get l (class_count program + n)) (from-objects program (start_world program) h)
      ∙ ap (λ c. slice_get ((start_world program).objects ++ made_of h) (c + n)) (sym (length-classes 0 (class_count program)))
      ∙ get-past (start_world program).objects (made_of h) n

  pub class-object : (n : ℕ) → n < class_count program → slice_get objects_there n ≡ Some (ClassObject (record { 0 = n }))
  class-object n below =
      ap (λ l. slice_get l n) (from-objects program (start_world program) h)
      ∙ get-front (start_world program).objects (made_of h) n _ (class-at 0 (class_count program) n below)
      ∙ ap (λ m. Some (ClassObject (record { 0 = m }))) (let e : 0 + n ≡ n = omega arith in e)

module _ (program : Program) (budget : ℕ) (h : List Event) (legal : IsLegal program budget h) (at : ℕ) (within : at ≤ length h) where
  front-made : AllMadesAreNew (take at h)
  unfolding AllMadesAreNew
  front-made = parts (take at h) (drop at h) (subst AllMadesAreNew (sym (take-append-drop at h)) (all-made program budget [] h legal))
    where
      parts : (xs ys : List Event) → AllMadesAreNew (xs ++ ys) → AllMadesAreNew xs
      parts [] ys all = tt
      parts (x ∷ xs) ys all = (all.0, parts xs ys all.1)

  -- an object whose making isn't found before isn't there
  pub not-made : (n slot : ℕ) → ((place : ℕ) → make_place_of h n ≡ Some place → at ≤ place) →
      None ≡ field_of_kind program (slice_get (world_after program (take at h)).objects (class_count program + n)) slot
  not-made n slot late =
      ap (λ o. field_of_kind program o slot)
      (sym (made-object program (take at h) n ∙ made-none 0 (take at h) front-made n (not-in-front h at within n late)))

  -- the one found there is of the kind that the entry makes
  pub was-made : (n slot place : ℕ) (e : Event) → make_place_of h n ≡ Some place → place < at → slice_get h place ≡ Some e →
      field_of_home program slot (home_made e) ≡ field_of_kind program (slice_get (world_after program (take at h)).objects (class_count program + n)) slot
  was-made n slot place e found before stands =
      let made : MadeAt 0 (take at h) n place = made-at 0 (take at h) front-made n place (in-front h at within n place found before) in
      let here : slice_get h place ≡ Some made.entry =
      ap (λ p. slice_get h p) (made.apart ∙ (let f : 0 + made.behind ≡ made.behind = omega arith in f))
      ∙ ap (λ es. slice_get es made.behind) (sym (take-append-drop at h))
      ∙ get-front (take at h) (drop at h) made.behind made.entry made.there in
      let same : Some e ≡ Some made.entry = sym stands ∙ here in
      let entry : e ≡ made.entry = cc in
      ap (λ x. field_of_home program slot (home_made x)) (entry ∙ made.makes.is)
      ∙ kind-fits program slot made.makes.guest made.kind made.makes.reply
      ∙ ap (λ o. field_of_kind program o slot) (sym (made-object program (take at h) n ∙ made.object))
