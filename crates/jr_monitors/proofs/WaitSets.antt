-- Laws of the wait sets as they are kept.
use Rattle.std.proofs.Common.{◌≡◌, ◌≢◌, ◌<◌, ◌≤◌, ◌+◌, inl, inr, ℕ, zero, suc, Bool, true, false, not, cond, eq-eqb, eqb-true, ne_eqb, nat_lt, lt-ltb, true≢false, List, [], ◌∷◌, ◌++◌, length, map, get_or, set, take, drop, slice_get, option_to_list, option_map, is_some, drop-cons, Option, Some, None, append_assoc, refl, sym, ◌∙◌, ap, subst, arith}
use Rattle.std.specs.List.{refill}
use Rattle.std.proofs.lemmas.Bool.{ltb-true, cases_eq}
use Rattle.jr_base.specs.declared.number.ObjId.{ObjId}
use Rattle.jr_base.specs.declared.number.GuestNo.{GuestNo}
use Rattle.jr_meaning.specs.World.{Waiter, same_object}
use Rattle.jr_meaning.specs.Machine.{with_waiter, without_guest}
use Rattle.jr_monitors.specs.declared.member.Member.{Member}
use Rattle.jr_monitors.specs.declared.member.Stay.{Stay}
use Rattle.jr_monitors.specs.declared.member.Stage.{Stage}
use Rattle.jr_monitors.specs.declared.member.Stage.TheVariants.{Waits, WaitsForTime, Woken}
use Rattle.jr_monitors.specs.Roster.{waiter_at, waiter_of, waiters_from, woken_on, woken}

-- the numbers of the guests in an object's wait set
abbrev pub numbers_from : ℕ → ObjId → List Member → List ℕ
numbers_from n object members = map (λ (w : Waiter). w.guest.0) (waiters_from n object members)

abbrev number : ℕ → GuestNo
number n = record { 0 = n }

-- a waiter, if there is one, is that guest
abbrev pub IsOf : GuestNo → Option Waiter → Type 0
IsOf g None = Unit {0}
IsOf g (Some w) = w.guest ≡ g

number_at : (g : GuestNo) (stage : Stage) → IsOf g (waiter_at g stage)
number_at g Waits = refl
number_at g WaitsForTime = refl
number_at g Woken = tt

number_if : (g : GuestNo) (b : Bool) (stage : Stage) → IsOf g (cond b (waiter_at g stage) None)
number_if g true stage = number_at g stage
number_if g false stage = tt

pub waiter_number : (object : ObjId) (g : GuestNo) (stay : Option Stay) → IsOf g (waiter_of object g stay)
waiter_number object g None = tt
waiter_number object g (Some stay) = number_if g (same_object stay.object object) stay.stage

le-nltb : (a b : ℕ) → b ≤ a → nat_lt a b ≡ false
le-nltb a b le = by (nat_lt a b) refl
  where
    by : (t : Bool) → nat_lt a b ≡ t → t ≡ false
    by false is = refl
    by true is = absurd (let lt = ltb-true a b is in omega (arith, le, lt))

cond-none : (b : Bool) → cond {A = Option Waiter} b None None ≡ None
cond-none true = refl
cond-none false = refl

-- ---- a change of one guest

some_is : (x y : Member) → ◌≡◌ {A = Option Member} (Some x) (Some y) → x ≡ y
some_is x y e = cc

-- a guest that waits there, or not, as before
pub waiters-same : (n : ℕ) (object : ObjId) (members : List Member) (k : ℕ) (old new : Member) → slice_get members k ≡ Some old
    → waiter_of object (number (n + k)) new.stay ≡ waiter_of object (number (n + k)) old.stay
    → waiters_from n object (set members k new) ≡ waiters_from n object members
waiters-same n object [] k old new is same = refl
waiters-same n object (m ∷ members) zero old new is same =
    let e : n + 0 ≡ n = omega arith in
    let s : waiter_of object (number n) new.stay ≡ waiter_of object (number n) old.stay = subst (λ j. waiter_of object (number j) new.stay ≡ waiter_of object (number j) old.stay) e same in
    let at : m ≡ old = some_is m old is in
    ap (λ w. option_to_list w ++ waiters_from (suc n) object members) (s ∙ ap (λ (x : Member). waiter_of object (number n) x.stay) (sym at))
waiters-same n object (m ∷ members) (suc k) old new is same =
    let e : n + suc k ≡ suc n + k = omega arith in
    ap (λ ws. option_to_list (waiter_of object (number n) m.stay) ++ ws)
    (waiters-same (suc n) object members k old new is (subst (λ j. waiter_of object (number j) new.stay ≡ waiter_of object (number j) old.stay) e same))

-- ---- a guest joins

behind-step : (w : Waiter) (x : Option Waiter) (ws : List Waiter) (n : ℕ) → IsOf (number n) x → w.guest.0 < n
    → with_waiter w ws ≡ w ∷ ws → with_waiter w (option_to_list x ++ ws) ≡ w ∷ (option_to_list x ++ ws)
behind-step w None ws n of lt rest = rest
behind-step w (Some x) ws n of lt rest =
    ap (λ b. cond b (w ∷ x ∷ ws) (x ∷ with_waiter w ws)) (lt-ltb w.guest.0 x.guest.0 (let e = ap (λ (g : GuestNo). g.0) of in omega (arith, lt, e)))

-- all waiters have numbers from there on
behind : (w : Waiter) (n : ℕ) (object : ObjId) (members : List Member) → w.guest.0 < n
    → with_waiter w (waiters_from n object members) ≡ w ∷ waiters_from n object members
behind w n object [] lt = refl
behind w n object (m ∷ members) lt =
    behind-step w (waiter_of object (number n) m.stay) (waiters_from (suc n) object members) n (waiter_number object (number n) m.stay) lt
    (behind w (suc n) object members (omega (arith, lt)))

join-step : (w : Waiter) (x : Option Waiter) (ws ws' : List Waiter) (n : ℕ) → IsOf (number n) x → n < w.guest.0
    → ws' ≡ with_waiter w ws → option_to_list x ++ ws' ≡ with_waiter w (option_to_list x ++ ws)
join-step w None ws ws' n of gt rest = rest
join-step w (Some x) ws ws' n of gt rest =
    ap (λ l. x ∷ l) rest
    ∙ sym (ap (λ b. cond b (w ∷ x ∷ ws) (x ∷ with_waiter w ws)) (le-nltb w.guest.0 x.guest.0 (let e = ap (λ (g : GuestNo). g.0) of in omega (arith, gt, e))))

pub waiters-join : (w : Waiter) (n : ℕ) (object : ObjId) (members : List Member) (k : ℕ) (old new : Member) → slice_get members k ≡ Some old
    → w.guest.0 ≡ n + k → waiter_of object (number (n + k)) old.stay ≡ None → waiter_of object (number (n + k)) new.stay ≡ Some w
    → waiters_from n object (set members k new) ≡ with_waiter w (waiters_from n object members)
waiters-join w n object [] k old new is at out joins = cc
waiters-join w n object (m ∷ members) zero old new is at out joins =
    let e : n + 0 ≡ n = omega arith in
    let j : waiter_of object (number n) new.stay ≡ Some w = subst (λ i. waiter_of object (number i) new.stay ≡ Some w) e joins in
    let o : waiter_of object (number n) m.stay ≡ None = ap (λ (x : Member). waiter_of object (number n) x.stay) (some_is m old is) ∙ subst (λ i. waiter_of object (number i) old.stay ≡ None) e out in
    ap (λ x. option_to_list x ++ waiters_from (suc n) object members) j
    ∙ (sym (behind w (suc n) object members (omega (arith, at))) ∙ ap (λ x. with_waiter w (option_to_list x ++ waiters_from (suc n) object members)) (sym o))
waiters-join w n object (m ∷ members) (suc k) old new is at out joins =
    let e : n + suc k ≡ suc n + k = omega arith in
    join-step w (waiter_of object (number n) m.stay) (waiters_from (suc n) object members) (waiters_from (suc n) object (set members k new)) n
    (waiter_number object (number n) m.stay) (omega (arith, at))
    (waiters-join w (suc n) object members k old new is (at ∙ e)
    (subst (λ i. waiter_of object (number i) old.stay ≡ None) e out) (subst (λ i. waiter_of object (number i) new.stay ≡ Some w) e joins))

-- ---- a guest leaves

other-step : (g : GuestNo) (x : Option Waiter) (ws ws' : List Waiter) (n : ℕ) → IsOf (number n) x → g.0 ≢ n
    → without_guest g ws ≡ ws' → without_guest g (option_to_list x ++ ws) ≡ option_to_list x ++ ws'
other-step g None ws ws' n of other rest = rest
other-step g (Some x) ws ws' n of other rest =
    ap (λ b. cond (not b) (x ∷ without_guest g ws) (without_guest g ws)) (ne_eqb g.0 x.guest.0 (λ same. other (same ∙ ap (λ (y : GuestNo). y.0) of)))
    ∙ ap (λ l. x ∷ l) rest

own-step : (g : GuestNo) (x : Option Waiter) (ws : List Waiter) (n : ℕ) → IsOf (number n) x → g.0 ≡ n
    → without_guest g (option_to_list x ++ ws) ≡ without_guest g ws
own-step g None ws n of same = refl
own-step g (Some x) ws n of same =
    ap (λ b. cond (not b) (x ∷ without_guest g ws) (without_guest g ws)) (eq-eqb g.0 x.guest.0 (same ∙ sym (ap (λ (y : GuestNo). y.0) of)))

-- those of higher numbers stay
later-stay : (g : GuestNo) (n : ℕ) (object : ObjId) (members : List Member) → g.0 < n
    → without_guest g (waiters_from n object members) ≡ waiters_from n object members
later-stay g n object [] lt = refl
later-stay g n object (m ∷ members) lt =
    other-step g (waiter_of object (number n) m.stay) (waiters_from (suc n) object members) (waiters_from (suc n) object members) n
    (waiter_number object (number n) m.stay) (λ e. omega (arith, e, lt)) (later-stay g (suc n) object members (omega (arith, lt)))

pub waiters-leave : (g : GuestNo) (n : ℕ) (object : ObjId) (members : List Member) (k : ℕ) (old new : Member) → slice_get members k ≡ Some old
    → g.0 ≡ n + k → waiter_of object (number (n + k)) new.stay ≡ None
    → waiters_from n object (set members k new) ≡ without_guest g (waiters_from n object members)
waiters-leave g n object [] k old new is at out = cc
waiters-leave g n object (m ∷ members) zero old new is at out =
    let e : n + 0 ≡ n = omega arith in
    ap (λ x. option_to_list x ++ waiters_from (suc n) object members) (subst (λ i. waiter_of object (number i) new.stay ≡ None) e out)
    ∙ (sym (later-stay g (suc n) object members (omega (arith, at)))
    ∙ sym (own-step g (waiter_of object (number n) m.stay) (waiters_from (suc n) object members) n (waiter_number object (number n) m.stay) (at ∙ e)))
waiters-leave g n object (m ∷ members) (suc k) old new is at out =
    let e : n + suc k ≡ suc n + k = omega arith in
    sym (other-step g (waiter_of object (number n) m.stay) (waiters_from (suc n) object members) (waiters_from (suc n) object (set members k new)) n
    (waiter_number object (number n) m.stay) (λ same. omega (arith, at, same))
    (sym (waiters-leave g (suc n) object members k old new is (at ∙ e) (subst (λ i. waiter_of object (number i) new.stay ≡ None) e out))))

-- a guest that isn't there takes nobody away
pub nobody-leaves : (g : GuestNo) (n : ℕ) (object : ObjId) (members : List Member)
    → ((k : ℕ) (m : Member) → g.0 ≡ n + k → slice_get members k ≡ Some m → waiter_of object (number (n + k)) m.stay ≡ None)
    → without_guest g (waiters_from n object members) ≡ waiters_from n object members
nobody-leaves g n object [] out = refl
nobody-leaves g n object (m ∷ members) out =
    elim (cases_eq g.0 n) [
      | inl same ↦
          let e : n + 0 ≡ n = omega arith in
          let o : waiter_of object (number n) m.stay ≡ None = subst (λ i. waiter_of object (number i) m.stay ≡ None) e (out 0 m (same ∙ sym e) refl) in
          own-step g (waiter_of object (number n) m.stay) (waiters_from (suc n) object members) n (waiter_number object (number n) m.stay) same
          ∙ (later-stay g (suc n) object members (omega (arith, same)) ∙ sym (ap (λ x. option_to_list x ++ waiters_from (suc n) object members) o))
      | inr other ↦
          other-step g (waiter_of object (number n) m.stay) (waiters_from (suc n) object members) (waiters_from (suc n) object members) n
          (waiter_number object (number n) m.stay) other
          (nobody-leaves g (suc n) object members (λ k x at is. let e : n + suc k ≡ suc n + k = omega arith in subst (λ i. waiter_of object (number i) x.stay ≡ None) e (out (suc k) x (at ∙ sym e) is)))
    ]

-- ---- all leave

-- out of the object's wait set, and as before in each other one
left_stay : (object other : ObjId) (g : GuestNo) (s : Stay) (a b c : Bool) → same_object s.object object ≡ a → same_object other object ≡ b → same_object s.object other ≡ c
    → cond (same_object (cond a (woken s) s).object other) (waiter_at g (cond a (woken s) s).stage) None ≡ cond b None (cond c (waiter_at g s.stage) None)
left_stay object other g s true true c sa oa so = cond-none (same_object s.object other)
left_stay object other g s false true true sa oa so =
    absurd (true≢false (sym (eq-eqb s.object.0 object.0 (eqb-true s.object.0 other.0 so ∙ eqb-true other.0 object.0 oa)) ∙ sa))
left_stay object other g s false true false sa oa so = ap (λ t. cond t (waiter_at g s.stage) None) so
left_stay object other g s true false true sa oa so =
    absurd (true≢false (sym (eq-eqb other.0 object.0 (sym (eqb-true s.object.0 other.0 so) ∙ eqb-true s.object.0 object.0 sa)) ∙ oa))
left_stay object other g s true false false sa oa so = cond-none (same_object s.object other)
left_stay object other g s false false c sa oa so = ap (λ t. cond t (waiter_at g s.stage) None) so

left : (object other : ObjId) (g : GuestNo) (stay : Option Stay)
    → waiter_of other g (option_map (λ (s : Stay). cond (same_object s.object object) (woken s) s) stay) ≡ cond (same_object other object) None (waiter_of other g stay)
left object other g None = sym (cond-none (same_object other object))
left object other g (Some s) = left_stay object other g s (same_object s.object object) (same_object other object) (same_object s.object other) refl refl refl

both : (b : Bool) (x : Option Waiter) (ws : List Waiter) → option_to_list (cond b None x) ++ cond b [] ws ≡ cond b [] (option_to_list x ++ ws)
both true x ws = refl
both false x ws = refl

no_one : (b : Bool) → [] ≡ cond {A = List Waiter} b [] []
no_one true = refl
no_one false = refl

pub waiters-all_leave : (n : ℕ) (object other : ObjId) (members : List Member)
    → waiters_from n other (map (woken_on object) members) ≡ cond (same_object other object) [] (waiters_from n other members)
waiters-all_leave n object other [] = no_one (same_object other object)
waiters-all_leave n object other (m ∷ members) =
    ap (λ x. option_to_list x ++ waiters_from (suc n) other (map (woken_on object) members)) (left object other (number n) m.stay)
    ∙ (ap (λ ws. option_to_list (cond (same_object other object) None (waiter_of other (number n) m.stay)) ++ ws) (waiters-all_leave (suc n) object other members)
    ∙ both (same_object other object) (waiter_of other (number n) m.stay) (waiters_from (suc n) other members))

-- ---- a guest more

-- one that waits for nothing
pub waiters-push : (n : ℕ) (object : ObjId) (members : List Member) (m : Member) → m.stay ≡ None
    → waiters_from n object (members ++ m ∷ []) ≡ waiters_from n object members
waiters-push n object [] m out = ap (λ s. option_to_list (waiter_of object (number n) s) ++ []) out
waiters-push n object (x ∷ members) m out = ap (λ ws. option_to_list (waiter_of object (number n) x.stay) ++ ws) (waiters-push (suc n) object members m out)

-- ---- the numbers of the waiters

found_number : (g : GuestNo) (x : Option Waiter) (ws : List Waiter) → IsOf g x → is_some x ≡ true
    → map (λ (w : Waiter). w.guest.0) (option_to_list x ++ ws) ≡ g.0 ∷ map (λ (w : Waiter). w.guest.0) ws
found_number g None ws of is = absurd (true≢false (sym is))
found_number g (Some w) ws of is = ap (λ (y : GuestNo). y.0 ∷ map (λ (w : Waiter). w.guest.0) ws) of

not_found : (x : Option Waiter) (ws : List Waiter) → is_some x ≡ false
    → map (λ (w : Waiter). w.guest.0) (option_to_list x ++ ws) ≡ map (λ (w : Waiter). w.guest.0) ws
not_found None ws is = refl
not_found (Some w) ws is = absurd (true≢false is)

next_of : (n i : ℕ) (object : ObjId) (members : List Member) (d : Member) → i < length members
    → numbers_from n object (drop i members) ≡ map (λ (w : Waiter). w.guest.0) (option_to_list (waiter_of object (number n) (get_or members i d).stay) ++ waiters_from (suc n) object (drop (i + 1) members))
next_of n i object members d within =
    let e : suc i ≡ i + 1 = omega arith in
    ap (λ ms. numbers_from n object ms) (drop-cons members i d within ∙ ap (λ k. get_or members i d ∷ drop k members) e)

pub numbers-with : (n i : ℕ) (object : ObjId) (members : List Member) (d : Member) → i < length members
    → is_some (waiter_of object (number n) (get_or members i d).stay) ≡ true
    → numbers_from n object (drop i members) ≡ n ∷ numbers_from (suc n) object (drop (i + 1) members)
numbers-with n i object members d within is =
    next_of n i object members d within
    ∙ found_number (number n) (waiter_of object (number n) (get_or members i d).stay) (waiters_from (suc n) object (drop (i + 1) members)) (waiter_number object (number n) (get_or members i d).stay) is

pub numbers-without : (n i : ℕ) (object : ObjId) (members : List Member) (d : Member) → i < length members
    → is_some (waiter_of object (number n) (get_or members i d).stay) ≡ false
    → numbers_from n object (drop i members) ≡ numbers_from (suc n) object (drop (i + 1) members)
numbers-without n i object members d within is =
    next_of n i object members d within ∙ not_found (waiter_of object (number n) (get_or members i d).stay) (waiters_from (suc n) object (drop (i + 1) members)) is

pub rest-with : (i so_far : ℕ) (object : ObjId) (members : List Member) (d : Member) (found all : List ℕ) → so_far ≡ i → i < length members
    → is_some (waiter_of object (number (suc i)) (get_or members i d).stay) ≡ true
    → found ++ numbers_from (suc i) object (drop i members) ≡ all
    → (found ++ (so_far + 1) ∷ []) ++ numbers_from (suc (i + 1)) object (drop (i + 1) members) ≡ all
rest-with i so_far object members d found all same within is rest =
    let n : so_far + 1 ≡ suc i = omega (arith, same) in
    let e : suc (i + 1) ≡ suc (suc i) = omega arith in
    append_assoc found ((so_far + 1) ∷ []) (numbers_from (suc (i + 1)) object (drop (i + 1) members))
    ∙ (ap (λ k. found ++ k ∷ numbers_from (suc (i + 1)) object (drop (i + 1) members)) n
    ∙ (ap (λ k. found ++ suc i ∷ numbers_from k object (drop (i + 1) members)) e
    ∙ (ap (λ l. found ++ l) (sym (numbers-with (suc i) i object members d within is)) ∙ rest)))

pub rest-without : (i : ℕ) (object : ObjId) (members : List Member) (d : Member) (found all : List ℕ) → i < length members
    → is_some (waiter_of object (number (suc i)) (get_or members i d).stay) ≡ false
    → found ++ numbers_from (suc i) object (drop i members) ≡ all
    → found ++ numbers_from (suc (i + 1)) object (drop (i + 1) members) ≡ all
rest-without i object members d found all within is rest =
    let e : suc (i + 1) ≡ suc (suc i) = omega arith in
    ap (λ k. found ++ numbers_from k object (drop (i + 1) members)) e
    ∙ (ap (λ l. found ++ l) (sym (numbers-without (suc i) i object members d within is)) ∙ rest)

-- ---- one guest more is changed

pub mapped-more : {A : Type 0} (f : A → A) (xs : List A) (i : ℕ) (d : A) → i < length xs
    → set (map f (take i xs) ++ drop i xs) i (f (get_or (map f (take i xs) ++ drop i xs) i d)) ≡ map f (take (suc i) xs) ++ drop (suc i) xs
mapped-more f [] i d within = absurd (omega (arith, within))
mapped-more f (x ∷ xs) zero d within = refl
mapped-more f (x ∷ xs) (suc i) d within = ap (λ l. f x ∷ l) (mapped-more f xs i d (omega (arith, within)))

pub refill-same : {A : Type 0} (xs ws : List A) → length ws ≡ length xs → refill (length xs) xs ws ≡ ws
refill-same [] [] e = refl
refill-same [] (w ∷ ws) e = absurd (omega (arith, e))
refill-same (x ∷ xs) [] e = absurd (omega (arith, e))
refill-same (x ∷ xs) (w ∷ ws) e = ap (λ l. w ∷ l) (refill-same xs ws (omega (arith, e)))
