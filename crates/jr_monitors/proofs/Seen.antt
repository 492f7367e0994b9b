-- What the objects of a world say, where a roster stands for it.
use Rattle.std.proofs.Common.{◌≡◌, ◌≢◌, ◌<◌, ◌≤◌, ◌+◌, ◌↔◌, inl, inr, ℕ, zero, suc, Bool, true, false, cond, ◌||◌, true≢false, IsTrue, IsSome, List, [], ◌∷◌, length, map, get_or, Contains, Option, Some, None, is_some, refl, sym, ◌∙◌, ap, subst, arith}
use Rattle.std.specs.List.{filter, find, list_any, range_with_len}
use Rattle.std.proofs.lemmas.Bool.{cases_eq}
use Rattle.std.proofs.lemmas.List.Kept.{AllPairs-filter}
use Rattle.jr_base.specs.declared.number.ObjId.{ObjId}
use Rattle.jr_base.specs.declared.number.GuestNo.{GuestNo}
use Rattle.jr_base.specs.Deed.{Deed, Enter, Resume, Join}
use Rattle.jr_base.specs.Rising.{IsRising}
use Rattle.jr_base.proofs.RisingLists.{IsRising-unique}
use Rattle.jr_program.specs.Programs.{numbered}
use Rattle.jr_meaning.specs.World.{World, Waiter, objects_of, kind_of, same_object}
use Rattle.jr_meaning.specs.Machine.{is_ready, is_timed, is_timed_waiter, is_waiting, locks_of, owns, waits, waits_on}
use Rattle.jr_monitors.specs.declared.member.Member.{Member}
use Rattle.jr_monitors.specs.declared.member.Stay.{Stay}
use Rattle.jr_monitors.specs.declared.member.Stage.{Stage}
use Rattle.jr_monitors.specs.declared.member.Stage.TheVariants.{Waits, WaitsForTime, Woken}
use Rattle.jr_monitors.specs.Roster.{Roster, depth_for, is_for_time, is_in_set, is_timed_stay, kept_in, parkable, waiter_at, waiter_of, waiters_from, waits_for}
use Rattle.jr_monitors.specs.Stands.{StandsFor}
use Rattle.jr_monitors.proofs.Notices.{timed_of, timed-is, timed-none, waiting-is, waiting-none}
use Rattle.jr_monitors.proofs.Owning.{object_is, object_itself}
use Rattle.jr_monitors.proofs.Rosters.{kept-now}
use Rattle.jr_monitors.proofs.Numbers.{numbered_above, numbered_within}

above : (a b : ℕ) → a ≤ b → a ≢ b → a < b
above a b le other = omega (arith, le, other)

-- the objects from a number on
abbrev objects_from : ℕ → ℕ → List ObjId
objects_from a n = map (λ k. record { 0 = k }) (range_with_len a n)

number-from : (a n i : ℕ) (d : ObjId) → i < n → (get_or (objects_from a n) i d).0 ≡ a + i
number-from a zero i d lt = absurd (omega (arith, lt))
number-from a (suc n) zero d lt = omega arith
number-from a (suc n) (suc i) d lt = let e = number-from (a + 1) n i d (omega (arith, lt)) in omega (arith, e)

count-from : (a n : ℕ) → length (objects_from a n) ≡ n
count-from a zero = refl
count-from a (suc n) = ap suc (count-from (a + 1) n)

rising-from : (a n : ℕ) → IsRising (objects_from a n)
rising-from a n i j d lt within =
    let c = count-from a n in
    let e = number-from a n i d (omega (arith, lt, within, c)) in let f = number-from a n j d (omega (arith, within, c)) in omega (arith, e, f, lt)

first-held : (x : ObjId) (xs : List ObjId) → Contains (x ∷ xs) x
first-held x xs = (0, omega arith, refl)

later-held : (x : ObjId) (xs : List ObjId) (o : ObjId) → Contains xs o → Contains (x ∷ xs) o
later-held x xs o held = (suc held.0, (let h = held.1 in omega (arith, h)), held.2)

passes : (test : ObjId → Bool) (xs : List ObjId) (o : ObjId) → Contains (filter test xs) o → test o ≡ true
passes test [] o held = absurd (let h = held.1 in omega (arith, h))
passes test (x ∷ xs) o held = by (test x) refl held (passes test xs o)
  where
    first : (k : ℕ) → k < length (x ∷ filter test xs) → get_or (x ∷ filter test xs) k o ≡ o → test x ≡ true → (Contains (filter test xs) o → test o ≡ true) → test o ≡ true
    first zero within is holds rest = sym (ap test is) ∙ holds
    first (suc k) within is holds rest = rest (k, omega (arith, within), is)

    by : (b : Bool) → test x ≡ b → Contains (cond b (x ∷ filter test xs) (filter test xs)) o → (Contains (filter test xs) o → test o ≡ true) → test o ≡ true
    by true is held rest = first held.0 held.1 held.2 is rest
    by false is held rest = rest held

kept-in-filter : (test : ObjId → Bool) (x : ObjId) (xs : List ObjId) (o : ObjId) (b : Bool) → Contains (filter test xs) o → Contains (cond b (x ∷ filter test xs) (filter test xs)) o
kept-in-filter test x xs o true held = later-held x (filter test xs) o held
kept-in-filter test x xs o false held = held

in-filter : (test : ObjId → Bool) (a n : ℕ) (o : ObjId) → a ≤ o.0 → o.0 < a + n → test o ≡ true → Contains (filter test (objects_from a n)) o
in-filter test a zero o from below holds = absurd (omega (arith, from, below))
in-filter test a (suc n) o from below holds = elim (cases_eq a o.0) [
  | inl same ↦
      let is : (record { 0 = a }) ≡ o = ap (λ k. let p : ObjId = record { 0 = k } in p) same in
      let first : Contains (cond true ((record { 0 = a }) ∷ filter test (objects_from (a + 1) n)) (filter test (objects_from (a + 1) n))) o =
      subst (Contains ((record { 0 = a }) ∷ filter test (objects_from (a + 1) n))) is (first-held (record { 0 = a }) (filter test (objects_from (a + 1) n))) in
      subst (λ b. Contains (cond b ((record { 0 = a }) ∷ filter test (objects_from (a + 1) n)) (filter test (objects_from (a + 1) n))) o) (sym (ap test is ∙ holds)) first
  | inr other ↦
      kept-in-filter test (record { 0 = a }) (objects_from (a + 1) n) o (test (record { 0 = a }))
      (in-filter test (a + 1) n o (let lt : a < o.0 = above a o.0 from other in omega (arith, lt)) (omega (arith, below)) holds)
]

there-within : {A : Type 0} (xs : List A) (n : ℕ) → IsSome (numbered xs n) → (1 ≤ n) × (n < 1 + length xs)
there-within {A = A} xs n there = by (numbered xs n) refl there
  where
    by : (o : Option A) → numbered xs n ≡ o → IsSome o → (1 ≤ n) × (n < 1 + length xs)
    by None is there = absurd (cc)
    by (Some x) is there = (numbered_above xs n x is, (let h = numbered_within xs n x is in omega (arith, h)))

-- the objects whose monitors a guest owns, in rising order
pub locks-are : (world : World) (g : GuestNo) (locks : List ObjId) → IsRising locks
    → ((o : ObjId) → Contains locks o ↔ IsTrue (owns world g o)) → ((o : ObjId) → IsTrue (owns world g o) → IsSome (kind_of world o)) → locks ≡ locks_of world g
locks-are world g locks rising same there =
    IsRising-unique locks (locks_of world g) rising (AllPairs-filter (λ (a b : ObjId). a.0 < b.0) (owns world g) (objects_of world) (rising-from 1 (length world.objects)))
    (λ o. (
      λ held.
          let own = (same o).0 held in let at = there-within world.objects o.0 (there o own) in
          in-filter (owns world g) 1 (length world.objects) o at.0 at.1 own,
      λ held. (same o).1 (passes (owns world g) (objects_of world) o held),
    ))

-- only an Enter, a Resume and a Join may be not ready
pub parks-whole : (world : World) (g : GuestNo) (deed : Deed) → is_ready world g deed ≡ false → parkable deed ≡ Some deed
parks-whole world g (Enter object way) e = refl
parks-whole world g (Resume object) e = refl
parks-whole world g (Join object) e = refl
parks-whole world g deed e = absurd (true≢false e)

-- ---- one object of all

any-no : (test : ObjId → Bool) (xs : List ObjId) → ((o : ObjId) → test o ≡ false) → list_any test xs ≡ false
any-no test [] none = refl
any-no test (x ∷ xs) none = ap (λ b. b || list_any test xs) (none x) ∙ any-no test xs none

or_right : (a b : Bool) → b ≡ true → (a || b) ≡ true
or_right true b e = refl
or_right false b e = e

any-yes : (test : ObjId → Bool) (a n : ℕ) (o : ObjId) → a ≤ o.0 → o.0 < a + n → test o ≡ true → list_any test (objects_from a n) ≡ true
any-yes test a zero o from below holds = absurd (omega (arith, from, below))
any-yes test a (suc n) o from below holds = elim (cases_eq a o.0) [
  | inl same ↦
      let is : (record { 0 = a }) ≡ o = ap (λ k. let p : ObjId = record { 0 = k } in p) same in
      ap (λ b. b || list_any test (objects_from (a + 1) n)) (ap test is ∙ holds)
  | inr other ↦
      or_right (test (record { 0 = a })) (list_any test (objects_from (a + 1) n))
      (any-yes test (a + 1) n o (let lt : a < o.0 = above a o.0 from other in omega (arith, lt)) (omega (arith, below)) holds)
]

find-no : (test : ObjId → Bool) (xs : List ObjId) → ((o : ObjId) → test o ≡ false) → find test xs ≡ None
find-no test [] none = refl
find-no test (x ∷ xs) none = ap (λ b. cond b (Some x) (find test xs)) (none x) ∙ find-no test xs none

find-yes : (test : ObjId → Bool) (a n : ℕ) (o : ObjId) → a ≤ o.0 → o.0 < a + n → test o ≡ true → ((p : ObjId) → test p ≡ true → p ≡ o) → find test (objects_from a n) ≡ Some o
find-yes test a zero o from below holds one = absurd (omega (arith, from, below))
find-yes test a (suc n) o from below holds one = elim (cases_eq a o.0) [
  | inl same ↦
      let is : (record { 0 = a }) ≡ o = ap (λ k. let p : ObjId = record { 0 = k } in p) same in
      ap (λ b. cond b (Some (let p : ObjId = record { 0 = a } in p)) (find test (objects_from (a + 1) n))) (ap test is ∙ holds) ∙ ap Some is
  | inr other ↦
      let fails : test (record { 0 = a }) ≡ false = fails_at (test (record { 0 = a })) refl other in
      ap (λ b. cond b (Some (let p : ObjId = record { 0 = a } in p)) (find test (objects_from (a + 1) n))) fails
      ∙ find-yes test (a + 1) n o (let lt : a < o.0 = above a o.0 from other in omega (arith, lt)) (omega (arith, below)) holds one
]
  where
    fails_at : (b : Bool) → test (record { 0 = a }) ≡ b → a ≢ o.0 → b ≡ false
    fails_at true is apart = absurd (apart (ap (λ (p : ObjId). p.0) (one (record { 0 = a }) is)))
    fails_at false is apart = refl

-- ---- a guest's wait set

module _ (r : Roster) (world : World) (stands : StandsFor r world) (g : GuestNo) where
  timed-at : (o : ObjId) → is_timed g (world.monitors o).waiting ≡ is_timed g (waiters_from 1 o r.members)
  timed-at o = ap (is_timed g) (sym (stands.agrees.waiting o))

  waits-at : (o : ObjId) → is_waiting g (world.monitors o).waiting ≡ is_waiting g (waiters_from 1 o r.members)
  waits-at o = ap (is_waiting g) (sym (stands.agrees.waiting o))

  pub no-waits : numbered r.members g.0 ≡ None → None ≡ waits_on world g
  no-waits none = sym (find-no (waits world g) (objects_of world) (λ o. waits-at o ∙ waiting-none r g none o))

  pub no-timed : numbered r.members g.0 ≡ None → false ≡ is_timed_waiter world g
  no-timed none = sym (any-no (λ o. is_timed g (world.monitors o).waiting) (objects_of world) (λ o. timed-at o ∙ timed-none r g none o))

  module _ (m : Member) (is : numbered r.members g.0 ≡ Some m) where
    kind-there : (s : Stay) → m.stay ≡ Some s → IsSome (kind_of world s.object)
    kind-there s has = stands.objects.kept s.object g (subst IsSome (sym kept ∙ stands.agrees.kept s.object g) refl)
      where
        kept : kept_in r.members s.object g ≡ Some s.depth
        kept = kept-now r.members g m m is s.object ∙ (ap (depth_for s.object) has ∙ ap (λ b. cond b (Some s.depth) None) (object_itself s.object))

    untimed_if : (b : Bool) (w : Option Waiter) → timed_of w ≡ false → timed_of (cond b w None) ≡ false
    untimed_if true w e = e
    untimed_if false w e = refl

    timed-stay : (s : Option Stay) → m.stay ≡ s → is_timed_stay s ≡ is_timed_waiter world g
    timed-stay None has = sym (any-no (λ o. is_timed g (world.monitors o).waiting) (objects_of world) (λ o. timed-at o ∙ (timed-is r g m is o ∙ ap (λ t. timed_of (waiter_of o g t)) has)))
    timed-stay (Some s) has = at s.stage refl
      where
        none : (stage : Stage) → s.stage ≡ stage → timed_of (waiter_at g stage) ≡ false → false ≡ is_timed_waiter world g
        none stage same out = sym (any-no (λ o. is_timed g (world.monitors o).waiting) (objects_of world) (λ o.
            timed-at o ∙ (timed-is r g m is o ∙ (ap (λ t. timed_of (waiter_of o g t)) has
            ∙ (ap (λ t. timed_of (cond (same_object s.object o) (waiter_at g t) None)) same ∙ untimed_if (same_object s.object o) (waiter_at g stage) out)))))

        at : (stage : Stage) → s.stage ≡ stage → is_for_time stage ≡ is_timed_waiter world g
        at Waits same = none Waits same refl
        at Woken same = none Woken same refl
        at WaitsForTime same =
            let there = there-within world.objects s.object.0 (kind-there s has) in
            sym (any-yes (λ o. is_timed g (world.monitors o).waiting) 1 (length world.objects) s.object there.0 there.1
            (timed-at s.object ∙ (timed-is r g m is s.object ∙ (ap (λ t. timed_of (waiter_of s.object g t)) has
            ∙ (ap (λ t. timed_of (cond (same_object s.object s.object) (waiter_at g t) None)) same
            ∙ ap (λ b. timed_of (cond b (waiter_at g WaitsForTime) None)) (object_itself s.object))))))

    pub timed-seen : is_timed_stay m.stay ≡ is_timed_waiter world g
    timed-seen = timed-stay m.stay refl

    waiting_if : (b : Bool) (w : Option Waiter) → is_some w ≡ false → is_some (cond b w None) ≡ false
    waiting_if true w e = e
    waiting_if false w e = refl

    waits-none : ((o : ObjId) → is_some (waiter_of o g m.stay) ≡ false) → None ≡ waits_on world g
    waits-none out = sym (find-no (waits world g) (objects_of world) (λ o. waits-at o ∙ (waiting-is r g m is o ∙ out o)))

    here-only : (s : Stay) (w : Option Waiter) (o : ObjId) (b : Bool) → same_object s.object o ≡ b → is_some (cond b w None) ≡ true → o ≡ s.object
    here-only s w o true same e = sym (object_is s.object o same)
    here-only s w o false same e = absurd (true≢false (sym e))

    waits-stay : (s : Option Stay) → m.stay ≡ s → waits_for s ≡ waits_on world g
    waits-stay None has = waits-none (λ o. ap (λ t. is_some (waiter_of o g t)) has)
    waits-stay (Some s) has = at s.stage refl
      where
        on : (stage : Stage) → s.stage ≡ stage → is_some (waiter_at g stage) ≡ true → Some s.object ≡ waits_on world g
        on stage same in_set =
            let there = there-within world.objects s.object.0 (kind-there s has) in
            sym (find-yes (waits world g) 1 (length world.objects) s.object there.0 there.1
            (waits-at s.object ∙ (waiting-is r g m is s.object ∙ (ap (λ t. is_some (waiter_of s.object g t)) has
            ∙ (ap (λ t. is_some (cond (same_object s.object s.object) (waiter_at g t) None)) same
            ∙ (ap (λ b. is_some (cond b (waiter_at g stage) None)) (object_itself s.object) ∙ in_set)))))
            (λ p waits_there. here-only s (waiter_at g s.stage) p (same_object s.object p) refl
            (sym (waits-at p ∙ (waiting-is r g m is p ∙ ap (λ t. is_some (waiter_of p g t)) has)) ∙ waits_there)))

        at : (stage : Stage) → s.stage ≡ stage → cond (is_in_set stage) (Some s.object) None ≡ waits_on world g
        at Waits same = on Waits same refl
        at WaitsForTime same = on WaitsForTime same refl
        at Woken same = waits-none (λ o. ap (λ t. is_some (waiter_of o g t)) has
            ∙ (ap (λ t. is_some (cond (same_object s.object o) (waiter_at g t) None)) same ∙ waiting_if (same_object s.object o) (waiter_at g Woken) refl))

    pub waits-seen : waits_for m.stay ≡ waits_on world g
    waits-seen = waits-stay m.stay refl
