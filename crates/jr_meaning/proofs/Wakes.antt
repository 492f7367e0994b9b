-- Wake-ups by the serial rule: who wakes was in a wait set, and each wake-up leaves fewer guests that wait for some
-- time only.
use Rattle.std.proofs.Common.{◌≡◌, ◌==◌, ◌%◌, ◌+◌, ◌<◌, ◌≤◌, ℕ, zero, suc, cond, not, ◌||◌, ◌&&◌, Bool, true, false, is_some, List, [], ◌∷◌, map, length, IsTrue, Option, Some, None, slice_get, refl, ap, sym, subst, ◌∙◌, arith}
use Rattle.std.specs.List.{filter, find, list_any, range_with_len}
use Rattle.std.proofs.lemmas.Bool.{true≢false, false≢true}
use Rattle.std.proofs.lemmas.List.FromFn.{length-map-range_with_len}
use Rattle.jr_base.specs.declared.number.GuestNo.{GuestNo}
use Rattle.jr_program.specs.Programs.{Program}
use Rattle.jr_meaning.specs.Event.{Event}
use Rattle.jr_meaning.specs.World.{World, Waiter, objects_of, is_live, same_guest, guests_of}
use Rattle.jr_meaning.specs.Machine.{is_waiting, is_timed, waits, is_waiter, is_timed_waiter, without_guest, wake}
use Rattle.jr_meaning.specs.History.{world_after, step_count}
use Rattle.jr_meaning.specs.Serial.{member, timed_waiters, first_waiter, wake_of, spurious_wake}

-- ---- lists

some-same : {A : Type 0} (x y : A) → Some x ≡ Some y → x ≡ y
some-same x y e = cc

and-left : (a b : Bool) → (a && b) ≡ true → a ≡ true
and-left true b e = refl
and-left false b e = e

and-right : (a b : Bool) → (a && b) ≡ true → b ≡ true
and-right true b e = e
and-right false b e = absurd (false≢true e)

and-both : (a b : Bool) → a ≡ true → b ≡ true → (a && b) ≡ true
and-both true b e f = f
and-both false b e f = absurd (false≢true e)

-- what passes a test passes a weaker one
any-weaker : {A : Type 0} (p q : A → Bool) → ((x : A) → q x ≡ true → p x ≡ true) → (xs : List A) → list_any q xs ≡ true → list_any p xs ≡ true
any-weaker p q weaker [] some = some
any-weaker p q weaker (x ∷ xs) some = by (q x) refl some (any-weaker p q weaker xs)
  where
    more : (b c : Bool) → c ≡ true → (b || c) ≡ true
    more true c e = refl
    more false c e = e

    by : (b : Bool) → q x ≡ b → (b || list_any q xs) ≡ true → (list_any q xs ≡ true → list_any p xs ≡ true) → (p x || list_any p xs) ≡ true
    by true is some rest = ap (λ b. b || list_any p xs) (weaker x is)
    by false is some rest = more (p x) (list_any p xs) (rest some)

any-none : {A : Type 0} (p : A → Bool) → ((x : A) → p x ≡ false) → (xs : List A) → list_any p xs ≡ false
any-none p none [] = refl
any-none p none (x ∷ xs) = rw (none x) (any-none p none xs)

find-some : {A : Type 0} (p : A → Bool) (xs : List A) → list_any p xs ≡ true → is_some (find p xs) ≡ true
find-some p [] some = some
find-some p (x ∷ xs) some = by (p x) some (find-some p xs)
  where
    by : (b : Bool) → (b || list_any p xs) ≡ true → (list_any p xs ≡ true → is_some (find p xs) ≡ true) → is_some (cond b (Some x) (find p xs)) ≡ true
    by true some rest = refl
    by false some rest = rest some

find-passes : {A : Type 0} (p : A → Bool) (xs : List A) (a : A) → find p xs ≡ Some a → p a ≡ true
find-passes p [] a e = cc
find-passes p (x ∷ xs) a e = by (p x) refl e (find-passes p xs a)
  where
    by : (b : Bool) → p x ≡ b → cond b (Some x) (find p xs) ≡ Some a → (find p xs ≡ Some a → p a ≡ true) → p a ≡ true
    by true is e rest = subst (λ y. p y ≡ true) (some-same x a e) is
    by false is e rest = rest e

-- what a test lets through stands in the list and passes it
filter-there : {A : Type 0} (p : A → Bool) (xs : List A) (k : ℕ) (a : A) → slice_get (filter p xs) k ≡ Some a → (j : ℕ) × (slice_get xs j ≡ Some a) × (p a ≡ true)
filter-there p [] k a e = cc
filter-there p (x ∷ xs) k a e = by (p x) refl k e (filter-there p xs)
  where
    by : (b : Bool) → p x ≡ b → (k : ℕ) → slice_get (cond b (x ∷ filter p xs) (filter p xs)) k ≡ Some a →
        ((k : ℕ) (a : _) → slice_get (filter p xs) k ≡ Some a → (j : ℕ) × (slice_get xs j ≡ Some a) × (p a ≡ true)) →
        (j : ℕ) × (slice_get (x ∷ xs) j ≡ Some a) × (p a ≡ true)
    by true is zero e rest = (zero, e, subst (λ y. p y ≡ true) (some-same x a e) is)
    by true is (suc k) e rest = let there = rest k a e in (suc there.0, there.1, there.2)
    by false is k e rest = let there = rest k a e in (suc there.0, there.1, there.2)

member-there : {A : Type 0} (a : A) (rest : List A) (i : ℕ) → (k : ℕ) × (slice_get (a ∷ rest) k ≡ Some (member a rest i))
member-there a rest zero = (zero, refl)
member-there a [] (suc i) = (zero, refl)
member-there a (b ∷ rest) (suc i) = let there = member-there b rest i in (suc there.0, there.1)

module _ {A : Type 0} (p q : A → Bool) (weaker : (x : A) → q x ≡ true → p x ≡ true) where
  -- a stronger test lets no more through
  no-longer : (xs : List A) → length (filter q xs) ≤ length (filter p xs)
  no-longer [] = omega arith
  no-longer (x ∷ xs) = by (q x) refl (p x) refl (no-longer xs)
    where
      by : (c : Bool) → q x ≡ c → (b : Bool) → p x ≡ b → length (filter q xs) ≤ length (filter p xs) →
          length (cond c (x ∷ filter q xs) (filter q xs)) ≤ length (cond b (x ∷ filter p xs) (filter p xs))
      by true qx true px le = omega arith
      by true qx false px le = absurd (true≢false (sym (weaker x qx) ∙ px))
      by false qx true px le = omega arith
      by false qx false px le = le

  -- and fewer, where it stops one that the other lets through
  shorter : (xs : List A) (j : ℕ) (a : A) → slice_get xs j ≡ Some a → p a ≡ true → q a ≡ false → length (filter q xs) < length (filter p xs)
  shorter [] j a e pa qa = cc
  shorter (x ∷ xs) zero a e pa qa =
      let same : x ≡ a = some-same x a e in
      let px : p x ≡ true = ap p same ∙ pa in
      let qx : q x ≡ false = ap q same ∙ qa in
      rw (px, qx) (let le = no-longer xs in omega arith)
  shorter (x ∷ xs) (suc j) a e pa qa = by (q x) refl (p x) refl (shorter xs j a e pa qa)
    where
      by : (c : Bool) → q x ≡ c → (b : Bool) → p x ≡ b → length (filter q xs) < length (filter p xs) →
          length (cond c (x ∷ filter q xs) (filter q xs)) < length (cond b (x ∷ filter p xs) (filter p xs))
      by true qx true px lt = omega arith
      by true qx false px lt = absurd (true≢false (sym (weaker x qx) ∙ px))
      by false qx true px lt = omega arith
      by false qx false px lt = lt

-- ---- wait sets

timed-waits : (g : GuestNo) (waiters : List Waiter) → is_timed g waiters ≡ true → is_waiting g waiters ≡ true
timed-waits g waiters timed =
    any-weaker (λ (w : Waiter). same_guest g w.guest) (λ (w : Waiter). same_guest g w.guest && w.is_timed) (λ w both. and-left (same_guest g w.guest) w.is_timed both) waiters timed

-- who waits for some time only waits
pub timed-waiter-waits : (world : World) (g : GuestNo) → is_timed_waiter world g ≡ true → is_waiter world g ≡ true
timed-waiter-waits world g timed =
    find-some (waits world g) (objects_of world)
    (any-weaker (waits world g) (λ object. is_timed g (world.monitors object).waiting) (λ object. timed-waits g (world.monitors object).waiting) (objects_of world) timed)

-- who woke is no longer there
woken-out : (g : GuestNo) (waiters : List Waiter) → is_timed g (without_guest g waiters) ≡ false
woken-out g [] = refl
woken-out g (w ∷ waiters) = by (same_guest g w.guest) refl (woken-out g waiters)
  where
    by : (b : Bool) → same_guest g w.guest ≡ b → is_timed g (without_guest g waiters) ≡ false →
        is_timed g (cond (not b) (w ∷ without_guest g waiters) (without_guest g waiters)) ≡ false
    by true is rest = rest
    by false is rest = rw is rest

-- and nobody else came
others-stay : (g x : GuestNo) (waiters : List Waiter) → is_timed x (without_guest g waiters) ≡ true → is_timed x waiters ≡ true
others-stay g x [] some = some
others-stay g x (w ∷ waiters) some = by (same_guest g w.guest) some (others-stay g x waiters)
  where
    more : (b c : Bool) → c ≡ true → (b || c) ≡ true
    more true c e = refl
    more false c e = e

    either : (b c d : Bool) → (c ≡ true → d ≡ true) → (b || c) ≡ true → (b || d) ≡ true
    either true c d f e = refl
    either false c d f e = f e

    by : (b : Bool) → is_timed x (cond (not b) (w ∷ without_guest g waiters) (without_guest g waiters)) ≡ true →
        (is_timed x (without_guest g waiters) ≡ true → is_timed x waiters ≡ true) → ((same_guest x w.guest && w.is_timed) || is_timed x waiters) ≡ true
    by true some rest = more (same_guest x w.guest && w.is_timed) (is_timed x waiters) (rest some)
    by false some rest = either (same_guest x w.guest && w.is_timed) (is_timed x (without_guest g waiters)) (is_timed x waiters) rest some

abbrev waits-live : World → GuestNo → Bool
waits-live world g = is_live world g && is_timed_waiter world g

after-wake : (world : World) (g : GuestNo) → is_timed_waiter (wake world g) g ≡ false
after-wake world g = any-none (λ object. is_timed g (without_guest g (world.monitors object).waiting)) (λ object. woken-out g (world.monitors object).waiting) (objects_of world)

after-wake-fewer : (world : World) (g x : GuestNo) → waits-live (wake world g) x ≡ true → waits-live world x ≡ true
after-wake-fewer world g x both =
    and-both (is_live world x) (is_timed_waiter world x) (and-left (is_live world x) (is_timed_waiter (wake world g) x) both)
    (any-weaker (λ object. is_timed x (world.monitors object).waiting) (λ object. is_timed x (without_guest g (world.monitors object).waiting)) (λ object. others-stay g x (world.monitors object).waiting) (objects_of world) (and-right (is_live world x) (is_timed_waiter (wake world g) x) both))

after-wake-not : (world : World) (g : GuestNo) → waits-live (wake world g) g ≡ false
after-wake-not world g = by (is_live world g) (after-wake world g)
  where
    by : (b : Bool) → is_timed_waiter (wake world g) g ≡ false → (b && is_timed_waiter (wake world g) g) ≡ false
    by true e = e
    by false e = refl

-- ---- who wakes where nobody can step

-- a timed waiter that wakes waited, and leaves fewer
pub record WakesWell (world : World) (g : GuestNo) : Type 0 where
  pub live : IsTrue (is_live world g)
  pub timed : IsTrue (is_timed_waiter world g)
  pub waits : IsTrue (is_waiter world g)
  pub fewer : length (timed_waiters (wake world g)) < length (timed_waiters world)

pub wakes-well : (world : World) (first : GuestNo) (rest : List GuestNo) (i : ℕ) → timed_waiters world ≡ first ∷ rest → WakesWell world (member first rest i)
wakes-well world first rest i e = record {
  live = and-left (is_live world g) (is_timed_waiter world g) from.2;
  timed = and-right (is_live world g) (is_timed_waiter world g) from.2;
  waits = timed-waiter-waits world g (and-right (is_live world g) (is_timed_waiter world g) from.2);
  fewer = shorter (waits-live world) (waits-live (wake world g)) (after-wake-fewer world g) (guests_of world) from.0 g from.1 from.2 (after-wake-not world g);
}
  where
    g : GuestNo
    g = member first rest i

    there : (k : ℕ) × (slice_get (first ∷ rest) k ≡ Some g)
    there = member-there first rest i

    from : (j : ℕ) × (slice_get (guests_of world) j ≡ Some g) × (waits-live world g ≡ true)
    from = filter-there (waits-live world) (guests_of world) there.0 g (ap (λ gs. slice_get gs there.0) e ∙ there.1)

abbrev numbered-guest : ℕ → GuestNo
numbered-guest n = record { 0 = n }

-- each guest that was started has its place
guest-there : (a n i : ℕ) → i < n → slice_get (map numbered-guest (range_with_len a n)) i ≡ Some (numbered-guest (a + i))
guest-there a zero i few = absurd (omega arith)
guest-there a (suc n) zero few = let same : a ≡ a + 0 = omega arith in ap (λ k. Some (numbered-guest k)) same
guest-there a (suc n) (suc i) few =
    let same : (a + 1) + i ≡ a + suc i = omega arith in guest-there (a + 1) n i (omega arith) ∙ ap (λ k. Some (numbered-guest k)) same

-- so where the list is empty no live guest waits for some time only
pub none-timed : (world : World) (g : GuestNo) (i : ℕ) → i < length world.guests → g.0 ≡ 1 + i → timed_waiters world ≡ [] →
    IsTrue (is_live world g) → IsTrue (is_timed_waiter world g) → ⊥
none-timed world g i few number none live timed =
    let there : slice_get (guests_of world) i ≡ Some g = guest-there 1 (length world.guests) i few ∙ ap (λ k. Some (numbered-guest k)) (sym number) in
    let more : length (filter (λ x. false) (guests_of world)) < length (timed_waiters world) =
    shorter (waits-live world) (λ x. false) (λ x e. absurd (false≢true e)) (guests_of world) i g there (and-both (is_live world g) (is_timed_waiter world g) live timed) refl in
    absurd (omega (arith, ap length none))

-- and there are at most as many as guests
pub timed-few : (world : World) → length (timed_waiters world) ≤ length world.guests
timed-few world =
    let le = no-longer (λ x. true) (waits-live world) (λ x e. refl) (guests_of world) in
    omega (arith, all (guests_of world), length-map-range_with_len numbered-guest 1 (length world.guests))
  where
    all : (gs : List GuestNo) → length (filter (λ x. true) gs) ≡ length gs
    all [] = refl
    all (g ∷ gs) = ap suc (all gs)

-- ---- who wakes behind a step

-- nobody, or one that waits
abbrev pub WaitsAs : Program → List Event → Option GuestNo → Type 0
WaitsAs program h None = Unit {0}
WaitsAs program h (Some g) = IsTrue (is_waiter (world_after program h) g)

-- nobody, or one that waits for some time only
abbrev pub TimedAs : Program → List Event → Option GuestNo → Type 0
TimedAs program h None = Unit {0}
TimedAs program h (Some g) = IsTrue (is_timed_waiter (world_after program h) g)

pub spurious-waits : (program : Program) (spurious : ℕ) (h : List Event) →
    (o : Option GuestNo) × (spurious_wake program spurious h ≡ wake_of o) × WaitsAs program h o × (spurious ≡ 0 → TimedAs program h o)
spurious-waits program zero h = (None, refl, tt, λ none. tt)
spurious-waits program (suc n) h = by (step_count h % suc n == 0)
  where
    first : (o : Option GuestNo) → first_waiter (world_after program h) ≡ o → WaitsAs program h o
    first None e = tt
    first (Some g) e = find-passes (is_waiter (world_after program h)) (guests_of (world_after program h)) g e

    by : (b : Bool) →
        (o : Option GuestNo) × (elim b [ true ↦ wake_of (first_waiter (world_after program h)) | false ↦ [] ] ≡ wake_of o) × WaitsAs program h o × (suc n ≡ 0 → TimedAs program h o)
    by true = (first_waiter (world_after program h), refl, first (first_waiter (world_after program h)) refl, λ none. absurd (omega arith))
    by false = (None, refl, tt, λ none. tt)
