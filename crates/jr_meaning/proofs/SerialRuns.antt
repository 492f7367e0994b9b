-- The serial rule makes right runs, and always comes to an end of its own.
use Rattle.std.proofs.Common.{◌≡◌, ◌≢◌, ◌⊎◌, inl, inr, append_assoc, append-nil, ◌*◌, ◌+◌, ◌<◌, ◌≤◌, ℕ, zero, suc, cond, not, ◌||◌, Bool, true, false, nat_lt, List, [], ◌∷◌, ◌++◌, map, length, All, IsTrue, Option, Some, None, slice_get, refl, ap, sym, subst, ◌∙◌, arith}
use Rattle.std.specs.Option.{option_map_or}
use Rattle.std.specs.List.{filter_map, cons_option, list_any, range_with_len, AllByRecursion}
use Rattle.std.proofs.lemmas.Bool.{eq-eqb, or_left, or_right, or_parts, ltb-true, ltb-false}
use Rattle.std.proofs.lemmas.List.Elements.{All-nil, All-cons}
use Rattle.jr_base.specs.Deed.{Deed}
use Rattle.jr_base.specs.declared.number.GuestNo.{GuestNo}
use Rattle.jr_base.specs.declared.action.Reply.{Reply}
use Rattle.jr_base.specs.declared.action.Reply.TheVariants as replies
use Rattle.jr_base.specs.declared.finish.Finish.TheVariants.{Budget, Memory}
use Rattle.jr_program.specs.Programs.{Program}
use Rattle.jr_meaning.specs.Next.{Next, Wants, Ended}
use Rattle.jr_meaning.specs.Event.{Event, Wake}
use Rattle.jr_meaning.specs.World.{Guest, is_live, same_guest, guests_of}
use Rattle.jr_meaning.specs.Machine.{is_ready, is_among, Answer, Only, Wakes, answer, Allows}
use Rattle.jr_meaning.specs.Limits.{Count}
use Rattle.jr_meaning.specs.History.{world_after, step_count, next_of, limit_met, CanStep, MayStep, IsLegal, WakesAreTimed}
use Rattle.jr_meaning.specs.Verdicts.{step_judged, IsRight, OwesNothing}
use Rattle.jr_meaning.specs.Finish.{GoesOnOrEnds, IsTrueFinish, SomeCanStep, SomeTimedWaiter}
use Rattle.jr_meaning.specs.Right.{Run, IsRightRun}
use Rattle.jr_meaning.specs.Serial.{moved, index_by, member, chosen, Candidate, if_ready, candidate_of, candidates, timed_waiters, wake_of, step_entries, some_live, Turn, Ends, Makes, replied, unless_past, steps_as, none_steps, choose_of, turn, serial_from, serial}
use Rattle.jr_meaning.proofs.Histories.{legal-budget, world_after-wake, step_count-wake}
use Rattle.jr_meaning.proofs.Judging.{steps-more, legal-more, right-more, owes-nothing-more, timed-more, legal-wake, timed-wake, right-wake, owes-nothing-wake}
use Rattle.jr_meaning.proofs.Limited.{few-guests}
use Rattle.jr_meaning.proofs.Wakes.{WakesWell, wakes-well, none-timed, timed-few, WaitsAs, TimedAs, spurious-waits}

-- ---- members

member-all : {A : Type 0} (P : A → Type 0) (a : A) (rest : List A) (i : ℕ) → AllByRecursion P (a ∷ rest) → P (member a rest i)
member-all P a rest zero all = all.0
member-all P a [] (suc i) all = all.0
member-all P a (b ∷ rest) (suc i) all = member-all P b rest i all.1

same_guest-self : (g : GuestNo) → same_guest g g ≡ true
same_guest-self g = eq-eqb g.0 g.0 refl

member-among : (a : GuestNo) (rest : List GuestNo) (i : ℕ) → is_among (member a rest i) (a ∷ rest) ≡ true
member-among a rest zero = or_left (same_guest a a) (list_any (same_guest a) rest) (same_guest-self a)
member-among a [] (suc i) = or_left (same_guest a a) false (same_guest-self a)
member-among a (b ∷ rest) (suc i) =
    or_right (same_guest (member b rest i) a) (is_among (member b rest i) (b ∷ rest)) (member-among b rest i)

-- ---- guests that haven't ended

any-there : {A : Type 0} (test : A → Bool) (xs : List A) → list_any test xs ≡ true → (i : ℕ) × (option_map_or test (slice_get xs i) false ≡ true)
any-there test [] some = cc
any-there test (x ∷ xs) some = by (test x) refl some (any-there test xs)
  where
    by : (b : Bool) → test x ≡ b → (b || list_any test xs) ≡ true →
        (list_any test xs ≡ true → (i : ℕ) × (option_map_or test (slice_get xs i) false ≡ true)) →
        (i : ℕ) × (option_map_or test (slice_get (x ∷ xs) i) false ≡ true)
    by true e some rest = (zero, e)
    by false e some rest = let there = rest some in (suc there.0, there.1)

abbrev unended : Guest → Bool
unended guest = not guest.ended

true_of : (b : Bool) → not b ≡ false → b ≡ true
true_of true e = refl
true_of false e = cc

all-ended : (gs : List Guest) → list_any unended gs ≡ false → All (λ (guest : Guest). IsTrue guest.ended) gs
all-ended [] none = All-nil (λ (guest : Guest). IsTrue guest.ended)
all-ended (guest ∷ gs) none =
    let parts = or_parts (unended guest) (list_any unended gs) none in
    All-cons (λ (guest : Guest). IsTrue guest.ended) guest gs (true_of guest.ended parts.0) (all-ended gs parts.1)

-- ---- candidates

module _ (program : Program) (h : List Event) where
  abbrev Can : Candidate → Type 0
  Can c = CanStep program h c.guest c.deed

  candidate-can : (g : GuestNo) → AllByRecursion Can (cons_option (candidate_of program h g) [])
  candidate-can g = by (is_live (world_after program h) g) refl (next_of program h g) refl
    where
      by : (b : Bool) → is_live (world_after program h) g ≡ b → (n : Next) → next_of program h g ≡ n →
          AllByRecursion Can (cons_option (cond b (if_ready (world_after program h) g n) None) [])
      by false e n f = tt
      by true e Ended f = tt
      by true e (Wants deed) f = ready (is_ready (world_after program h) g deed) refl
        where
          ready : (r : Bool) → is_ready (world_after program h) g deed ≡ r →
              AllByRecursion Can (cons_option (cond r (Some (record { guest = g; deed = deed })) None) [])
          ready false is = tt
          ready true is = (record { live = e; next = f; ready = is }, tt)

  all-can : (gs : List GuestNo) → AllByRecursion Can (filter_map (candidate_of program h) gs)
  all-can [] = tt
  all-can (g ∷ gs) = more (candidate_of program h g) (candidate-can g) (all-can gs)
    where
      more : (o : Option Candidate) → AllByRecursion Can (cons_option o []) → AllByRecursion Can (filter_map (candidate_of program h) gs) →
          AllByRecursion Can (cons_option o (filter_map (candidate_of program h) gs))
      more None all rest = rest
      more (Some c) all rest = (all.0, rest)

  -- a guest that can step is a candidate
  candidate-of-can : (g : GuestNo) (deed : Deed) → CanStep program h g deed → candidate_of program h g ≡ Some (record { guest = g; deed = deed })
  candidate-of-can g deed can = rw (can.live, can.next, can.ready) refl

  none-of : (a n i : ℕ) → i < n → filter_map (candidate_of program h) (map (λ k. record { 0 = k }) (range_with_len a n)) ≡ [] →
      candidate_of program h (record { 0 = a + i }) ≡ None
  none-of a zero i few none = absurd (omega arith)
  none-of a (suc n) i few none = by (candidate_of program h (record { 0 = a })) refl none (none-of (a + 1) n) i few
    where
      by : (o : Option Candidate) → candidate_of program h (record { 0 = a }) ≡ o →
          cons_option o (filter_map (candidate_of program h) (map (λ k. record { 0 = k }) (range_with_len (a + 1) n))) ≡ [] →
          ((i : ℕ) → i < n → filter_map (candidate_of program h) (map (λ k. record { 0 = k }) (range_with_len (a + 1) n)) ≡ [] →
          candidate_of program h (record { 0 = (a + 1) + i }) ≡ None) →
          (i : ℕ) → i < suc n → candidate_of program h (record { 0 = a + i }) ≡ None
      by (Some c) e none rest i few = cc
      by None e none rest zero few = let same : a + 0 ≡ a = omega arith in rw same e
      by None e none rest (suc i) few =
          let same : a + suc i ≡ (a + 1) + i = omega arith in rw same (rest i (omega arith) none)

  -- a live guest has one of the numbers
  live-there : (g : GuestNo) → is_live (world_after program h) g ≡ true → (i : ℕ) × (i < length (world_after program h).guests) × (g.0 ≡ 1 + i)
  live-there g live = by g.0 live
    where
      within : (gs : List Guest) (n : ℕ) → option_map_or (λ (guest : Guest). not guest.ended) (slice_get gs n) false ≡ true → n < length gs
      within [] n live = cc
      within (guest ∷ gs) zero live = omega arith
      within (guest ∷ gs) (suc n) live = let rest = within gs n live in omega arith

      by : (n : ℕ) → is_live (world_after program h) (record { 0 = n }) ≡ true → (i : ℕ) × (i < length (world_after program h).guests) × (n ≡ 1 + i)
      by zero live = cc
      by (suc n) live = (n, within (world_after program h).guests n live, omega arith)

  -- so where there is no candidate no guest can step
  none-can : candidates program h ≡ [] → SomeCanStep program h → ⊥
  none-can none some =
      let there = live-there some.0 some.2.live in
      let nothing : candidate_of program h (record { 0 = 1 + there.0 }) ≡ None = none-of 1 (length (world_after program h).guests) there.0 there.1 none in
      let same : candidate_of program h some.0 ≡ None = subst (λ n. candidate_of program h (record { 0 = n }) ≡ None) (sym there.2) nothing in
      let is = candidate-of-can some.0 some.1 some.2 in cc

  -- ---- who is live

  live-some : some_live (world_after program h) ≡ true → (g : GuestNo) × IsTrue (is_live (world_after program h) g)
  live-some some = let there = any-there unended (world_after program h).guests some in (record { 0 = suc there.0 }, there.1)

  live-none : some_live (world_after program h) ≡ false → All (λ (guest : Guest). IsTrue guest.ended) (world_after program h).guests
  live-none none = all-ended (world_after program h).guests none

  -- nor does a live guest wait for some time only, where the list of those is empty
  none-waits : timed_waiters (world_after program h) ≡ [] → SomeTimedWaiter program h → ⊥
  none-waits none some =
      let there = live-there some.0 some.1 in none-timed (world_after program h) some.0 there.0 there.1 there.2 none some.1 some.2

-- ---- a turn

-- a step with its verdicts was made, and behind it somebody that waited may have woken
record StepTurn (program : Program) (budget spurious : ℕ) (h entries : List Event) : Type 0 where
  guest : GuestNo
  deed : Deed
  reply : Reply
  woken : Option GuestNo
  same : entries ≡ step_judged program h guest deed reply ++ wake_of woken
  may : MayStep program budget h guest deed reply
  waits : WaitsAs program (h ++ step_judged program h guest deed reply) woken
  timed : spurious ≡ 0 → TimedAs program (h ++ step_judged program h guest deed reply) woken

-- or somebody that waited for some time only woke
record WakeTurn (program : Program) (h entries : List Event) : Type 0 where
  guest : GuestNo
  same : entries ≡ Wake guest ∷ []
  well : WakesWell (world_after program h) guest

-- what a turn is, truly
abbrev TrueTurn : Program → ℕ → ℕ → List Event → Turn → Type 0
TrueTurn program budget spurious h (Ends end) = IsTrueFinish program budget h end × (end ≢ Memory)
TrueTurn program budget spurious h (Makes entries x) = StepTurn program budget spurious h entries ⊎ WakeTurn program h entries

module _ (program : Program) (budget spurious : ℕ) (h : List Event) (legal : IsLegal program budget h) where
  true-entries : (g : GuestNo) (deed : Deed) (reply : Reply) → MayStep program budget h g deed reply →
      StepTurn program budget spurious h (step_entries program spurious h g deed reply)
  true-entries g deed reply may =
      let waits = spurious-waits program spurious (h ++ step_judged program h g deed reply) in record {
        guest = g;
        deed = deed;
        reply = reply;
        woken = waits.0;
        same = ap (λ es. step_judged program h g deed reply ++ es) waits.1;
        may = may;
        waits = waits.2;
        timed = waits.3;
      }

  true-reply : (seed x : ℕ) (g : GuestNo) (deed : Deed) → CanStep program h g deed → limit_met program h g deed ≡ None → step_count h < budget →
      (a : Answer) → answer program (world_after program h) g deed ≡ a → TrueTurn program budget spurious h (replied program spurious h seed x g deed a)
  true-reply seed x g deed can within few (Only reply) is =
      inl (true-entries g deed reply (record { can = can; answer = subst (λ a. Allows a reply) (sym is) refl; within_limits = within; within_budget = few }))
  true-reply seed x g deed can within few (Wakes first rest) is =
      let woken : GuestNo = chosen seed (moved x) first rest in
      let reply : Reply = replies.Woke woken in
      inl (true-entries g deed reply (record {
        can = can;
        answer = subst (λ a. Allows a reply) (sym is) (woken, refl, member-among first rest (index_by seed (moved x) (length rest + 1)));
        within_limits = within;
        within_budget = few;
      }))

  true-step : (seed x : ℕ) (c : Candidate) → CanStep program h c.guest c.deed → step_count h < budget → TrueTurn program budget spurious h (steps_as program spurious h seed x c)
  true-step seed x c can few = by (limit_met program h c.guest c.deed) refl
    where
      by : (o : Option Count) → limit_met program h c.guest c.deed ≡ o → TrueTurn program budget spurious h (unless_past program spurious h seed x c o)
      by None e = true-reply seed x c.guest c.deed can e few (answer program (world_after program h) c.guest c.deed) refl
      by (Some count) e = ((few, record { deed = c.deed; can = can; past = e }), λ same. cc)

  -- where nobody can step
  true-none : (seed x : ℕ) → candidates program h ≡ [] → (live : Bool) → some_live (world_after program h) ≡ live → (ws : List GuestNo) → timed_waiters (world_after program h) ≡ ws →
      TrueTurn program budget spurious h (none_steps seed x live ws)
  true-none seed x none true e [] waits = ((live-some program h e, none-can program h none, none-waits program h waits), λ same. cc)
  true-none seed x none false e [] waits = (live-none program h e, λ same. cc)
  true-none seed x none live e (first ∷ rest) waits = inr (record {
    guest = chosen seed (moved x) first rest;
    same = refl;
    well = wakes-well (world_after program h) first rest (index_by seed (moved x) (length rest + 1)) waits;
  })

  true-choice : (seed x : ℕ) → (cs : List Candidate) → candidates program h ≡ cs → AllByRecursion (Can program h) cs →
      TrueTurn program budget spurious h (choose_of program budget spurious h seed x cs)
  true-choice seed x [] none all = true-none seed x none (some_live (world_after program h)) refl (timed_waiters (world_after program h)) refl
  true-choice seed x (first ∷ rest) some all = by (nat_lt (step_count h) budget) refl
    where
      by : (b : Bool) → nat_lt (step_count h) budget ≡ b →
          TrueTurn program budget spurious h (elim b [ true ↦ steps_as program spurious h seed (moved x) (chosen seed (moved x) first rest) | false ↦ Ends (Budget budget) ])
      by true lt =
          true-step seed (moved x) (chosen seed (moved x) first rest)
          (member-all (Can program h) first rest (index_by seed (moved x) (length rest + 1)) all) (ltb-true (step_count h) budget lt)
      by false ge =
          let few : step_count h ≤ budget = legal-budget program budget h legal in
          let most : budget ≤ step_count h = ltb-false (step_count h) budget ge in
          ((refl, omega arith, (first.guest, first.deed, all.0)), λ same. cc)

  true-turn : (seed x : ℕ) → TrueTurn program budget spurious h (turn program budget spurious h seed x)
  true-turn seed x = true-choice seed x (candidates program h) refl (all-can program h (guests_of (world_after program h)))

-- ---- a run

-- what holds of the history so far
record Good (program : Program) (budget spurious : ℕ) (h : List Event) : Type 0 where
  legal : IsLegal program budget h
  right : IsRight program h
  nothing_owed : OwesNothing program h
  timed : spurious ≡ 0 → WakesAreTimed program h

good-wake : (program : Program) (budget spurious : ℕ) (h : List Event) (o : Option GuestNo) → Good program budget spurious h → WaitsAs program h o → (spurious ≡ 0 → TimedAs program h o) →
    Good program budget spurious (h ++ wake_of o)
good-wake program budget spurious h None good waits timed = subst (Good program budget spurious) (sym (append-nil h)) good
good-wake program budget spurious h (Some g) good waits timed = record {
  legal = legal-wake program h g budget good.legal waits;
  right = right-wake program h g good.right;
  nothing_owed = owes-nothing-wake program h g good.nothing_owed;
  timed = λ none. timed-wake program h g (good.timed none) (timed none);
}

wake-steps : (h : List Event) (o : Option GuestNo) → step_count (h ++ wake_of o) ≡ step_count h
wake-steps h None = ap step_count (append-nil h)
wake-steps h (Some g) = step_count-wake h g

good-step : (program : Program) (budget spurious : ℕ) (h entries : List Event) → Good program budget spurious h → StepTurn program budget spurious h entries →
    Good program budget spurious (h ++ entries) × (step_count (h ++ entries) ≡ step_count h + 1)
good-step program budget spurious h entries good t =
    let judged : List Event = step_judged program h t.guest t.deed t.reply in
    let apart : h ++ entries ≡ (h ++ judged) ++ wake_of t.woken = ap (λ es. h ++ es) t.same ∙ sym (append_assoc h judged (wake_of t.woken)) in (
      subst (Good program budget spurious) (sym apart) (good-wake program budget spurious (h ++ judged) t.woken (record {
        legal = legal-more program h t.guest t.deed t.reply budget good.legal t.may;
        right = right-more program h t.guest t.deed t.reply good.right;
        nothing_owed = owes-nothing-more program h t.guest t.deed t.reply good.nothing_owed;
        timed = λ none. timed-more program h t.guest t.deed t.reply (good.timed none);
      }) t.waits t.timed),
      ap step_count apart ∙ (wake-steps (h ++ judged) t.woken ∙ steps-more program h t.guest t.deed t.reply),
    )

-- how many live guests wait for some time only
abbrev timed_count : Program → List Event → ℕ
timed_count program h = length (timed_waiters (world_after program h))

record Whole (program : Program) (budget spurious n : ℕ) (h : List Event) (run : Run) : Type 0 where
  right : IsRightRun program budget run
  timed : spurious ≡ 0 → WakesAreTimed program run.history
  by_itself : 17 * budget + timed_count program h < n + 17 * step_count h → run.finish ≢ Memory

run-from : (n : ℕ) (program : Program) (budget seed spurious : ℕ) (h : List Event) (x : ℕ) → Good program budget spurious h →
    Whole program budget spurious n h (serial_from n program budget seed spurious h x)
run-from zero program budget seed spurious h x good = record {
  right = record { legal = good.legal; right = good.right; nothing_owed = good.nothing_owed; finish = tt };
  timed = good.timed;
  by_itself = λ enough same. let most : step_count h ≤ budget = legal-budget program budget h good.legal in omega arith;
}
run-from (suc n) program budget seed spurious h x good =
    by (turn program budget spurious h seed x) (true-turn program budget spurious h good.legal seed x) (run-from n program budget seed spurious)
  where
    by : (t : Turn) → TrueTurn program budget spurious h t →
        ((h' : List Event) (x' : ℕ) → Good program budget spurious h' → Whole program budget spurious n h' (serial_from n program budget seed spurious h' x')) →
        Whole program budget spurious (suc n) h (elim t [ Ends end ↦ record { history = h; finish = end } | Makes entries x' ↦ serial_from n program budget seed spurious (h ++ entries) x' ])
    by (Ends end) is rest = record {
      right = record { legal = good.legal; right = good.right; nothing_owed = good.nothing_owed; finish = is.0 };
      timed = good.timed;
      by_itself = λ enough. is.1;
    }
    by (Makes entries x') (inl step) rest =
        let later = good-step program budget spurious h entries good step in
        let run = rest (h ++ entries) x' later.0 in
        let more : step_count (h ++ entries) ≡ step_count h + 1 = later.1 in
        let few : timed_count program (h ++ entries) ≤ length (world_after program (h ++ entries)).guests = timed-few (world_after program (h ++ entries)) in
        let guests : length (world_after program (h ++ entries)).guests ≤ 16 = few-guests program budget (h ++ entries) later.0.legal in
        record { right = run.right; timed = run.timed; by_itself = λ enough. run.by_itself (omega arith) }
    by (Makes entries x') (inr wakes) rest =
        let run = rest (h ++ entries) x' (subst (λ es. Good program budget spurious (h ++ es)) (sym wakes.same) (good-wake program budget spurious h (Some wakes.guest) good wakes.well.waits (λ none. wakes.well.timed))) in
        let more : step_count (h ++ entries) ≡ step_count h = ap (λ es. step_count (h ++ es)) wakes.same ∙ step_count-wake h wakes.guest in
        let fewer : timed_count program (h ++ entries) < timed_count program h =
        subst (λ w. length (timed_waiters w) < timed_count program h) (sym (ap (λ es. world_after program (h ++ es)) wakes.same ∙ world_after-wake program h wakes.guest)) wakes.well.fewer in
        record { right = run.right; timed = run.timed; by_itself = λ enough. run.by_itself (omega arith) }

serial-whole : (program : Program) (budget seed spurious : ℕ) → Whole program budget spurious (17 * (budget + 1)) [] (serial program budget seed spurious)
serial-whole program budget seed spurious =
    run-from (17 * (budget + 1)) program budget seed spurious [] seed (record { legal = tt; right = tt; nothing_owed = λ k place inside. absurd (omega arith); timed = λ none. tt })

-- a run by the serial rule is right
pub serial-right : (program : Program) (budget seed spurious : ℕ) → IsRightRun program budget (serial program budget seed spurious)
serial-right program budget seed spurious = (serial-whole program budget seed spurious).right

-- so are its first turns, where it is cut off behind them
pub first-turns-right : (program : Program) (budget seed spurious turns : ℕ) →
    IsRightRun program budget (record { history = (serial_from turns program budget seed spurious [] seed).history; finish = Memory })
first-turns-right program budget seed spurious turns =
    let right = (run-from turns program budget seed spurious [] seed (record { legal = tt; right = tt; nothing_owed = λ k place inside. absurd (omega arith); timed = λ none. tt })).right in
    record { legal = right.legal; right = right.right; nothing_owed = right.nothing_owed; finish = tt }

-- and ends as its world says, never for want of turns
pub serial-ends : (program : Program) (budget seed spurious : ℕ) → (serial program budget seed spurious).finish ≢ Memory
serial-ends program budget seed spurious =
    let few : timed_count program [] ≤ 1 = timed-few (world_after program []) in (serial-whole program budget seed spurious).by_itself (omega arith)

-- without spurious wake-ups those alone wake that waited for some time only
pub serial-timed : (program : Program) (budget seed : ℕ) → WakesAreTimed program (serial program budget seed 0).history
serial-timed program budget seed = (serial-whole program budget seed 0).timed refl

-- ---- any legal history

-- it has a true finish of its own, or can go on
pub goes-on-or-ends : (program : Program) (budget : ℕ) (h : List Event) → IsLegal program budget h → GoesOnOrEnds program budget h
goes-on-or-ends program budget h legal = by (turn program budget 0 h 0 0) (true-turn program budget 0 h legal 0 0)
  where
    by : (t : Turn) → TrueTurn program budget 0 h t → GoesOnOrEnds program budget h
    by (Ends end) is = inr (inr (end, is.0, is.1))
    by (Makes entries x) (inl step) = inl (step.guest, step.deed, step.reply, step.may)
    by (Makes entries x) (inr wakes) = inr (inl (wakes.guest, wakes.well.live, wakes.well.timed))
