-- The frames of guests, one entry more after another, and the stacks that keep them.
use Rattle.std.proofs.Common.{◌≡◌, ◌==◌, ◌⊎◌, inl, inr, ◌+◌, ◌-◌, ◌≤◌, ◌<◌, ℕ, zero, suc, cond, true, false, List, [], ◌∷◌, ◌++◌, map, drop, take, reverse, length, Option, Some, None, slice_get, get_or, set, replicate, refl, ap, sym, subst, ◌∙◌, arith}
use Rattle.std.specs.Option.{option_map}
use Rattle.std.proofs.lemmas.List.{drop-map, take_more_set, take-take, length-take-le, length-reverse, reverse-append}
use Rattle.std.proofs.lemmas.Option.{slice_get-map, get_or_from_slice_get}
use Rattle.std.proofs.lemmas.Bool.Decides.{eqb_tells}
use Rattle.jr_base.specs.Deed.{Deed, Call, Leave, deed_of}
use Rattle.jr_base.specs.Spare.{Spare}
use Rattle.jr_base.specs.declared.action.Action.{Action}
use Rattle.jr_base.specs.declared.action.Action.TheVariants as actions
use Rattle.jr_base.specs.declared.action.LeaveHow.{LeaveHow}
use Rattle.jr_base.specs.declared.number.GuestNo.{GuestNo}
use Rattle.jr_base.specs.declared.number.MethodId.{MethodId}
use Rattle.jr_base.specs.declared.number.ObjId.{ObjId}
use Rattle.jr_base.specs.declared.number.Stamp.{Stamp}
use Rattle.jr_base.specs.declared.value.Value.{Value}
use Rattle.jr_base.specs.declared.finish.Verdict.{Verdict}
use Rattle.jr_base.specs.declared.action.Reply.{Reply}
use Rattle.jr_meaning.specs.Event.{Event, Step, Judged, Wake}
use Rattle.jr_meaning.specs.World.{same_guest}
use Rattle.jr_meaning.specs.Frames.{Frame, frames_after, frames_from, frames_of}
use Rattle.jr_report.specs.declared.open_calls.CallStack.{CallStack}
use Rattle.jr_report.specs.declared.open_calls.OpenCalls.{OpenCalls}
use Rattle.jr_report.specs.OpenCalls.{Holds, AreOpen, FramesFit, open_methods}

frames_from-step : (other : GuestNo) (k : ℕ) (frames : List Frame) (h : List Event) (g : GuestNo) (deed : Deed) (reply : Reply) →
    (n : ℕ) × (frames_from other k frames (h ++ Step g deed reply ∷ []) ≡ cond (same_guest g other) (frames_after n (frames_from other k frames h) deed) (frames_from other k frames h))
frames_from-step other k frames [] g deed reply = (k, refl)
frames_from-step other k frames (Step g' d' r' ∷ h) g deed reply = frames_from-step other (k + 1) (cond (same_guest g' other) (frames_after k frames d') frames) h g deed reply
frames_from-step other k frames (Judged step place value ∷ h) g deed reply = frames_from-step other k frames h g deed reply
frames_from-step other k frames (Wake woken ∷ h) g deed reply = frames_from-step other k frames h g deed reply

-- what a step does to the methods that its guest has open
abbrev pub methods_after : List MethodId → Deed → List MethodId
methods_after ms (Call method this arguments) = method ∷ ms
methods_after ms (Leave method how) = drop 1 ms
methods_after ms _ = ms

names-after : (n : ℕ) (frames : List Frame) (deed : Deed) → map (λ (f : Frame). f.method) (frames_after n frames deed) ≡ methods_after (map (λ (f : Frame). f.method) frames) deed
names-after n frames (Call method this arguments) = refl
names-after n frames (Leave method how) = sym (drop-map (λ (f : Frame). f.method) 1 frames)
names-after n frames _ = refl

pub open-other : (h : List Event) (other g : GuestNo) (deed : Deed) (reply : Reply) → (g.0 ≡ other.0 → ⊥) → open_methods (h ++ Step g deed reply ∷ []) other ≡ open_methods h other
open-other h other g deed reply apart = by (eqb_tells g.0 other.0)
  where
    by : ((g.0 == other.0) ≡ true) × (g.0 ≡ other.0) ⊎ ((g.0 == other.0) ≡ false) × (g.0 ≡ other.0 → ⊥) → open_methods (h ++ Step g deed reply ∷ []) other ≡ open_methods h other
    by (inl (t, e)) = absurd (apart e)
    by (inr (t, ne)) =
        let more = frames_from-step other 0 [] h g deed reply in
        ap (map (λ (f : Frame). f.method)) (more.1 ∙ ap (λ b. cond b (frames_after more.0 (frames_of h other) deed) (frames_of h other)) t)

pub open-own : (h : List Event) (g : GuestNo) (deed : Deed) (reply : Reply) → open_methods (h ++ Step g deed reply ∷ []) g ≡ methods_after (open_methods h g) deed
open-own h g deed reply = by (eqb_tells g.0 g.0)
  where
    by : ((g.0 == g.0) ≡ true) × (g.0 ≡ g.0) ⊎ ((g.0 == g.0) ≡ false) × (g.0 ≡ g.0 → ⊥) → open_methods (h ++ Step g deed reply ∷ []) g ≡ methods_after (open_methods h g) deed
    by (inr (t, ne)) = absurd (ne refl)
    by (inl (t, e)) =
        let more = frames_from-step g 0 [] h g deed reply in
        ap (map (λ (f : Frame). f.method)) (more.1 ∙ ap (λ b. cond b (frames_after more.0 (frames_of h g) deed) (frames_of h g)) t)
        ∙ names-after more.0 (frames_of h g) deed

-- what isn't a step opens and closes nothing
open-judged : (h : List Event) (other : GuestNo) (step : Stamp) (place : ℕ) (value : Verdict) → open_methods (h ++ Judged step place value ∷ []) other ≡ open_methods h other
open-judged h other step place value = ap (map (λ (f : Frame). f.method)) (from 0 [] h)
  where
    from : (n : ℕ) (frames : List Frame) (h : List Event) → frames_from other n frames (h ++ Judged step place value ∷ []) ≡ frames_from other n frames h
    from n frames [] = refl
    from n frames (Step g d r ∷ h) = from (n + 1) (cond (same_guest g other) (frames_after n frames d) frames) h
    from n frames (Judged s q v ∷ h) = from n frames h
    from n frames (Wake woken ∷ h) = from n frames h

open-woken : (h : List Event) (other w : GuestNo) → open_methods (h ++ Wake w ∷ []) other ≡ open_methods h other
open-woken h other w = ap (map (λ (f : Frame). f.method)) (from 0 [] h)
  where
    from : (n : ℕ) (frames : List Frame) (h : List Event) → frames_from other n frames (h ++ Wake w ∷ []) ≡ frames_from other n frames h
    from n frames [] = refl
    from n frames (Step g d r ∷ h) = from (n + 1) (cond (same_guest g other) (frames_after n frames d) frames) h
    from n frames (Judged s q v ∷ h) = from n frames h
    from n frames (Wake woken ∷ h) = from n frames h

-- ---- one stack

reverse-cons : (m : MethodId) (ms : List MethodId) → reverse (m ∷ ms) ≡ reverse ms ++ m ∷ []
reverse-cons m ms = reverse-append (m ∷ []) ms

-- a stack is as deep as it holds methods
pub depth-is : (xs ms : List MethodId) (d : ℕ) → d ≤ length xs → take d xs ≡ reverse ms → d ≡ length ms
depth-is xs ms d within same = let a = length-take-le d xs within in let b = ap length same in let c = length-reverse ms in omega (arith, a, b, c)

pub pushed : (xs ms : List MethodId) (d : ℕ) (m : MethodId) → d < length xs → take d xs ≡ reverse ms → take (d + 1) (set xs d m) ≡ reverse (m ∷ ms)
pushed xs ms d m below same = take_more_set xs d m below ∙ ap (λ l. l ++ m ∷ []) same ∙ sym (reverse-cons m ms)

pub popped : (xs ms : List MethodId) (d : ℕ) → d ≤ length xs → take d xs ≡ reverse ms → take (d - 1) xs ≡ reverse (drop 1 ms)
popped xs [] d within same =
    let none = depth-is xs [] d within same in
    let zeros : d - 1 ≡ 0 = omega (arith, none) in ap (λ n. take n xs) zeros
popped xs (m ∷ ms) d within same =
    let deep = depth-is xs (m ∷ ms) d within same in
    let less : d - 1 ≡ length (reverse ms) = omega (arith, deep, length-reverse ms) in
    let under : d - 1 ≤ d = omega arith in
    sym (take-take (d - 1) d xs under) ∙ ap (take (d - 1)) (same ∙ reverse-cons m ms) ∙ ap (λ n. take n (reverse ms ++ m ∷ [])) less ∙ take-front (reverse ms) (m ∷ [])
  where
    take-front : (front back : List MethodId) → take (length front) (front ++ back) ≡ front
    take-front [] back = refl
    take-front (x ∷ front) back = ap (λ l. x ∷ l) (take-front front back)

get-take : (xs : List MethodId) (n k : ℕ) → k < n → slice_get (take n xs) k ≡ slice_get xs k
get-take xs zero k below = absurd (omega (arith, below))
get-take [] (suc n) k below = refl
get-take (x ∷ xs) (suc n) zero below = refl
get-take (x ∷ xs) (suc n) (suc k) below = get-take xs n k (omega (arith, below))

get-last : (front : List MethodId) (m : MethodId) → slice_get (front ++ m ∷ []) (length front) ≡ Some m
get-last [] m = refl
get-last (x ∷ front) m = get-last front m

pub newest-is : (xs ms : List MethodId) (d : ℕ) → 0 < d → d ≤ length xs → take d xs ≡ reverse ms → slice_get xs (d - 1) ≡ slice_get ms 0
newest-is xs [] d some within same = let none = depth-is xs [] d within same in absurd (omega (arith, none, some))
newest-is xs (m ∷ ms) d some within same =
    let deep = depth-is xs (m ∷ ms) d within same in
    let less : d - 1 ≡ length (reverse ms) = omega (arith, deep, length-reverse ms) in
    sym (get-take xs d (d - 1) (omega (arith, some))) ∙ ap (λ l. slice_get l (d - 1)) (same ∙ reverse-cons m ms) ∙ ap (slice_get (reverse ms ++ m ∷ [])) less ∙ get-last (reverse ms) m

pub no-newest : (xs ms : List MethodId) (d : ℕ) → d ≡ 0 → d ≤ length xs → take d xs ≡ reverse ms → None ≡ slice_get ms 0
no-newest xs [] d none within same = refl
no-newest xs (m ∷ ms) d none within same = let deep = depth-is xs (m ∷ ms) d within same in absurd (omega (arith, deep, none))

-- ---- a stack for each guest

get-set : {A : Type 0} (xs : List A) (n : ℕ) (new old : A) → slice_get xs n ≡ Some old → slice_get (set xs n new) n ≡ Some new
get-set [] n new old e = cc
get-set (x ∷ xs) zero new old e = refl
get-set (x ∷ xs) (suc n) new old e = get-set xs n new old e

get-set-other : {A : Type 0} (xs : List A) (n m : ℕ) (new : A) → (n ≡ m → ⊥) → slice_get (set xs n new) m ≡ slice_get xs m
get-set-other [] n m new apart = refl
get-set-other (x ∷ xs) zero zero new apart = absurd (apart refl)
get-set-other (x ∷ xs) zero (suc m) new apart = refl
get-set-other (x ∷ xs) (suc n) zero new apart = refl
get-set-other (x ∷ xs) (suc n) (suc m) new apart = get-set-other xs n m new (λ e. apart (ap (λ k. suc k) e))

get-same : {A : Type 0} (n k : ℕ) (x : A) → k < n → slice_get (replicate n x) k ≡ Some x
get-same zero k x below = absurd (omega (arith, below))
get-same (suc n) zero x below = refl
get-same (suc n) (suc k) x below = get-same n k x (omega (arith, below))

-- nothing is open before all entries
pub open-none : (calls : OpenCalls) (stack : CallStack) → calls.guests ≡ replicate 16 stack → Holds [] stack → AreOpen [] calls
open-none calls stack all holds g first last =
    (stack, ap (λ l. slice_get l (g.0 - 1)) all ∙ get-same 16 (g.0 - 1) stack (omega (arith, first, last)), holds)

same-open : (h h2 : List Event) (calls : OpenCalls) → ((g : GuestNo) → open_methods h2 g ≡ open_methods h g) → AreOpen h calls → AreOpen h2 calls
same-open h h2 calls same are g first last = let there = are g first last in (there.0, there.1, subst (λ ms. Holds ms there.0) (sym (same g)) there.2)

pub judged-open : (h : List Event) (calls : OpenCalls) (step : Stamp) (place : ℕ) (value : Verdict) → AreOpen h calls → AreOpen (h ++ Judged step place value ∷ []) calls
judged-open h calls step place value = same-open h (h ++ Judged step place value ∷ []) calls (λ g. open-judged h g step place value)

pub woken-open : (h : List Event) (calls : OpenCalls) (w : GuestNo) → AreOpen h calls → AreOpen (h ++ Wake w ∷ []) calls
woken-open h calls w = same-open h (h ++ Wake w ∷ []) calls (λ g. open-woken h g w)

-- a step that opens and closes nothing
pub still-open : (h : List Event) (calls : OpenCalls) (g : GuestNo) (deed : Deed) (reply : Reply) → ((ms : List MethodId) → methods_after ms deed ≡ ms) →
    AreOpen h calls → AreOpen (h ++ Step g deed reply ∷ []) calls
still-open h calls g deed reply stays = same-open h (h ++ Step g deed reply ∷ []) calls (λ other. by other (eqb_tells g.0 other.0))
  where
    by : (other : GuestNo) → ((g.0 == other.0) ≡ true) × (g.0 ≡ other.0) ⊎ ((g.0 == other.0) ≡ false) × (g.0 ≡ other.0 → ⊥) →
        open_methods (h ++ Step g deed reply ∷ []) other ≡ open_methods h other
    by other (inr (t, apart)) = open-other h other g deed reply apart
    by other (inl (t, e)) =
        let same : g ≡ other = ap (λ n. record { 0 = n }) e in
        subst (λ o. open_methods (h ++ Step g deed reply ∷ []) o ≡ open_methods h o) same (open-own h g deed reply ∙ stays (open_methods h g))

-- what is neither a Call nor a Leave
pub stays : (action : Action) → ((method : MethodId) (this : Option ObjId) (arguments : Spare Value) → action ≡ actions.Call method this arguments → ⊥) →
    ((method : MethodId) (how : LeaveHow) → action ≡ actions.Leave method how → ⊥) → (ms : List MethodId) → methods_after ms (deed_of action) ≡ ms
stays (actions.Call method this arguments) not_call not_leave ms = absurd (not_call method this arguments refl)
stays (actions.Leave method how) not_call not_leave ms = absurd (not_leave method how refl)
stays _ not_call not_leave ms = refl

-- a step of a guest that isn't one of 16
pub others-open : (h : List Event) (calls : OpenCalls) (g : GuestNo) (deed : Deed) (reply : Reply) → (1 ≤ g.0 → g.0 ≤ 16 → ⊥) →
    AreOpen h calls → AreOpen (h ++ Step g deed reply ∷ []) calls
others-open h calls g deed reply outside are other first last =
    let there = are other first last in
    let apart : g.0 ≡ other.0 → ⊥ = λ e. outside (omega (arith, e, first)) (omega (arith, e, last)) in
    (there.0, there.1, subst (λ ms. Holds ms there.0) (sym (open-other h other g deed reply apart)) there.2)

-- a guest's stack after its step, in the place of the one before
pub stack-moved : (h : List Event) (calls later : OpenCalls) (g : GuestNo) (deed made : Deed) (reply : Reply) (new : CallStack) → deed ≡ made → 1 ≤ g.0 → g.0 ≤ 16 →
    later.guests ≡ set calls.guests (g.0 - 1) new →
    (Holds (open_methods h g) (get_or calls.guests (g.0 - 1) (record { methods = []; depth = 0 })) → Holds (methods_after (open_methods h g) made) new) →
    AreOpen h calls → AreOpen (h ++ Step g deed reply ∷ []) later
stack-moved h calls later g deed made reply new is low high moved holds are other first last = by (eqb_tells g.0 other.0)
  where
    by : ((g.0 == other.0) ≡ true) × (g.0 ≡ other.0) ⊎ ((g.0 == other.0) ≡ false) × (g.0 ≡ other.0 → ⊥) →
        (stack : CallStack) × (slice_get later.guests (other.0 - 1) ≡ Some stack) × Holds (open_methods (h ++ Step g deed reply ∷ []) other) stack
    by (inr (t, apart)) =
        let there = are other first last in
        let differ : g.0 - 1 ≡ other.0 - 1 → ⊥ = λ e. apart (omega (arith, e, low, first)) in (
          there.0,
          ap (λ l. slice_get l (other.0 - 1)) moved ∙ get-set-other calls.guests (g.0 - 1) (other.0 - 1) new differ ∙ there.1,
          subst (λ ms. Holds ms there.0) (sym (open-other h other g deed reply apart)) there.2,
        )
    by (inl (t, e)) =
        let there = are g low high in
        let same : g ≡ other = ap (λ n. record { 0 = n }) e in
        subst (λ o. (stack : CallStack) × (slice_get later.guests (o.0 - 1) ≡ Some stack) × Holds (open_methods (h ++ Step g deed reply ∷ []) o) stack) same (
          new,
          ap (λ l. slice_get l (g.0 - 1)) moved ∙ get-set calls.guests (g.0 - 1) new there.0 there.1,
          subst (λ ms. Holds ms new) (sym (open-own h g deed reply ∙ ap (methods_after (open_methods h g)) is)) (holds (subst (Holds (open_methods h g)) (sym (get_or_from_slice_get calls.guests (g.0 - 1) there.0 (record { methods = []; depth = 0 }) there.1)) there.2)),
        )

-- there is room for a call more
pub room-for-call : (h : List Event) (g : GuestNo) (method : MethodId) (this : Option ObjId) (arguments : List Value) (reply : Reply) →
    FramesFit (h ++ Step g (Call method this arguments) reply ∷ []) → length (open_methods h g) < 256
room-for-call h g method this arguments reply fits =
    let few = fits g in
    let all = ap length (open-own h g (Call method this arguments) reply) in
    let count = length-names (frames_of (h ++ Step g (Call method this arguments) reply ∷ []) g) in
    omega (arith, few, all, count)
  where
    length-names : (frames : List Frame) → length (map (λ (f : Frame). f.method) frames) ≡ length frames
    length-names [] = refl
    length-names (f ∷ frames) = ap (λ n. suc n) (length-names frames)

-- the method of the newest frame
pub newest-method : (h : List Event) (g : GuestNo) → slice_get (open_methods h g) 0 ≡ option_map (λ (f : Frame). f.method) (slice_get (frames_of h g) 0)
newest-method h g = slice_get-map (λ (f : Frame). f.method) (frames_of h g) 0
