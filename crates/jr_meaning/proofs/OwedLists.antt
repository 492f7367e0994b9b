-- Nothing is owed exactly where the list of what is owed is empty; and what is known of a moment by its number.
use Rattle.std.proofs.Common.{◌≡◌, ◌==◌, ◌⊎◌, inl, inr, ◌+◌, ◌-◌, ◌<◌, ◌≤◌, ◌↔◌, ℕ, zero, suc, Bool, true, false, not, cond, is_some, List, [], ◌∷◌, ◌++◌, map, length, Option, Some, None, refl, ap, sym, subst, ◌∙◌, append_assoc, arith}
use Rattle.std.specs.Option.{option_map_or}
use Rattle.std.specs.Prelude.{flat_map}
use Rattle.std.specs.List.{filter, range_with_len}
use Rattle.jr_program.specs.Programs.{Program}
use Rattle.jr_meaning.specs.Event.{Event, Step, Judged, Wake}
use Rattle.jr_meaning.specs.History.{step_count}
use Rattle.jr_meaning.specs.Verdicts.{Moment, moment_from, moment_of, before_step, due, due_at, verdict_of, OwesNothing, owed_at, owed_of, owed}
use Rattle.jr_meaning.proofs.Judging.{moment_of-made}

-- ---- lists

-- a test that nothing passes leaves nothing
filter-none : (p : ℕ → Bool) (a n : ℕ) → ((i : ℕ) → i < a + n → p i ≡ false) → filter p (range_with_len a n) ≡ []
filter-none p a zero none = refl
filter-none p a (suc n) none = let first : p a ≡ false = none a (omega arith) in rw first (filter-none p (a + 1) n (λ i few. none i (omega arith)))

-- and what leaves nothing is passed by nothing
none-filter : (p : ℕ → Bool) (a n : ℕ) → filter p (range_with_len a n) ≡ [] → (i : ℕ) → a ≤ i → i < a + n → p i ≡ false
none-filter p a zero none i from few = absurd (omega arith)
none-filter p a (suc n) none i from few = by (p a) refl none (none-filter p (a + 1) n) i from few
  where
    same : (i : ℕ) → a ≤ i → (i ≡ a) ⊎ (a + 1 ≤ i)
    same i from = search arith

    by : (b : Bool) → p a ≡ b → cond b (a ∷ filter p (range_with_len (a + 1) n)) (filter p (range_with_len (a + 1) n)) ≡ [] →
        (filter p (range_with_len (a + 1) n) ≡ [] → (i : ℕ) → a + 1 ≤ i → i < (a + 1) + n → p i ≡ false) → (i : ℕ) → a ≤ i → i < a + suc n → p i ≡ false
    by true is none rest i from few = cc
    by false is none rest i from few = later (same i from)
      where
        later : (i ≡ a) ⊎ (a + 1 ≤ i) → p i ≡ false
        later (inl e) = ap p e ∙ is
        later (inr more) = rest none i more (omega arith)

flat-none : {A : Type 0} (f : ℕ → List A) (a n : ℕ) → ((i : ℕ) → f i ≡ []) → flat_map f (range_with_len a n) ≡ []
flat-none f a zero none = refl
flat-none f a (suc n) none = rw (none a) (flat-none f (a + 1) n none)

append-left : {A : Type 0} (xs ys : List A) → xs ++ ys ≡ [] → xs ≡ []
append-left [] ys e = refl
append-left (x ∷ xs) ys e = cc

append-right : {A : Type 0} (xs ys : List A) → xs ++ ys ≡ [] → ys ≡ []
append-right [] ys e = e
append-right (x ∷ xs) ys e = cc

none-flat : {A : Type 0} (f : ℕ → List A) (a n : ℕ) → flat_map f (range_with_len a n) ≡ [] → (i : ℕ) → i < n → f (a + i) ≡ []
none-flat f a zero none i few = absurd (omega arith)
none-flat f a (suc n) none zero few = let same : a + 0 ≡ a = omega arith in ap f same ∙ append-left (f a) (flat_map f (range_with_len (a + 1) n)) none
none-flat f a (suc n) none (suc i) few =
    let same : a + suc i ≡ (a + 1) + i = omega arith in
    ap f same ∙ none-flat f (a + 1) n (append-right (f a) (flat_map f (range_with_len (a + 1) n)) none) i (omega arith)

none-mapped : {A B : Type 0} (f : A → B) (xs : List A) → map f xs ≡ [] → xs ≡ []
none-mapped f [] e = refl
none-mapped f (x ∷ xs) e = cc

-- ---- nothing owed

not-true : (b : Bool) → b ≡ true → not b ≡ false
not-true true e = refl
not-true false e = cc

not-false : (b : Bool) → not b ≡ false → b ≡ true
not-false true e = refl
not-false false e = cc

module _ (program : Program) (h : List Event) where
  abbrev is-owed : ℕ → ℕ → Bool
  is-owed k place = not (is_some (verdict_of h k place))

  empty : OwesNothing program h → owed program h ≡ []
  empty nothing = flat-none (owed_of program h) 0 (step_count h) (λ k. ap (map (λ place. record { step = k; place = place }))
      (filter-none (is-owed k) 0 (length (due program h k)) (λ place inside. not-true (is_some (verdict_of h k place)) (nothing k place (omega arith)))))

  made : (k place : ℕ) → place < length (due program h k) → k < step_count h
  made k place inside = by (moment_of h k) refl
    where
      by : (m : Option Moment) → moment_of h k ≡ m → k < step_count h
      by None e = absurd (omega (arith, ap (λ m. length (option_map_or (due_at program) m [])) e))
      by (Some m) e = moment_of-made h k m e

  nothing-owed : owed program h ≡ [] → OwesNothing program h
  nothing-owed none k place inside =
      let number : 0 + k ≡ k = omega arith in
      let own : owed_of program h k ≡ [] = subst (λ n. owed_of program h n ≡ []) number (none-flat (owed_of program h) 0 (step_count h) none k (made k place inside)) in
      not-false (is_some (verdict_of h k place))
      (none-filter (is-owed k) 0 (length (due program h k)) (none-mapped (λ place. record { step = k; place = place }) (owed_at program h k) own) place (omega arith) (omega arith))

  pub owed-empty : OwesNothing program h ↔ (owed program h ≡ [])
  owed-empty = (empty, nothing-owed)

-- ---- moments

before-from : (before h : List Event) (k : ℕ) (m : Moment) → moment_from before h k ≡ Some m → m.before ≡ before ++ before_step h k
before-from before [] k m e = cc
before-from before (Step g deed reply ∷ h) k m e = by (k == 0) (before-from (before ++ Step g deed reply ∷ []) h (k - 1) m) e
  where
    by : (b : Bool) → (moment_from (before ++ Step g deed reply ∷ []) h (k - 1) ≡ Some m → m.before ≡ (before ++ Step g deed reply ∷ []) ++ before_step h (k - 1)) →
        cond b (Some (record { before = before; guest = g; deed = deed })) (moment_from (before ++ Step g deed reply ∷ []) h (k - 1)) ≡ Some m →
        m.before ≡ before ++ cond b [] (Step g deed reply ∷ before_step h (k - 1))
    by true rest e = sym (ap moment-before e) ∙ sym (append-none before)
      where
        moment-before : Option Moment → List Event
        moment-before (Some m) = m.before
        moment-before None = []

        append-none : (h : List Event) → h ++ [] ≡ h
        append-none [] = refl
        append-none (e ∷ h) = ap (λ es. e ∷ es) (append-none h)
    by false rest e = rest e ∙ append_assoc before (Step g deed reply ∷ []) (before_step h (k - 1))
before-from before (Judged s p v ∷ h) k m e =
    before-from (before ++ Judged s p v ∷ []) h k m e ∙ append_assoc before (Judged s p v ∷ []) (before_step h k)
before-from before (Wake w ∷ h) k m e = before-from (before ++ Wake w ∷ []) h k m e ∙ append_assoc before (Wake w ∷ []) (before_step h k)

pub moment-before : (h : List Event) (k : ℕ) (m : Moment) → moment_of h k ≡ Some m → m.before ≡ before_step h k
moment-before h k m e = before-from [] h k m e
