-- What the first turns of a run by the serial rule make is where the whole run begins.
use Rattle.std.proofs.Common.{◌≡◌, ◌≢◌, ◌⊎◌, inl, inr, ◌+◌, ◌*◌, ℕ, zero, suc, List, [], ◌∷◌, ◌++◌, refl, ap, sym, subst, ◌∙◌, append_assoc, arith}
use Rattle.jr_base.specs.declared.finish.Finish.TheVariants.{Memory}
use Rattle.jr_program.specs.Programs.{Program}
use Rattle.jr_meaning.specs.Event.{Event}
use Rattle.jr_meaning.specs.Right.{Run, IsRightRun}
use Rattle.jr_meaning.specs.Serial.{Turn, Ends, Makes, turn, serial_from, serial, IsSerialPrefix}
use Rattle.jr_meaning.proofs.SerialRuns.{serial-ends, first-turns-right}

append-none : (h : List Event) → h ++ [] ≡ h
append-none [] = refl
append-none (e ∷ h) = ap (λ es. e ∷ es) (append-none h)

module _ (program : Program) (budget seed spurious : ℕ) where
  abbrev from : ℕ → List Event → ℕ → Run
  from n h x = serial_from n program budget seed spurious h x

  -- so many turns more make no less
  abbrev Goes-on : ℕ → ℕ → List Event → ℕ → Type 0
  Goes-on n m h x = (rest : List Event) × ((from n h x).history ++ rest ≡ (from (n + m) h x).history)

  begins : (n : ℕ) (h : List Event) (x : ℕ) → (rest : List Event) × (h ++ rest ≡ (from n h x).history)
  begins zero h x = ([], append-none h)
  begins (suc n) h x = by (turn program budget spurious h seed x) (begins n)
    where
      by : (t : Turn) → ((h : List Event) (x : ℕ) → (rest : List Event) × (h ++ rest ≡ (from n h x).history)) →
          (rest : List Event) × (h ++ rest ≡ (elim t as (λ t. Run) [ Ends end ↦ record { history = h; finish = end } | Makes entries x' ↦ from n (h ++ entries) x' ]).history)
      by (Ends end) more = ([], append-none h)
      by (Makes entries x') more = let rest = more (h ++ entries) x' in (entries ++ rest.0, sym (append_assoc h entries rest.0) ∙ rest.1)

  goes-on : (n m : ℕ) (h : List Event) (x : ℕ) → Goes-on n m h x
  goes-on zero m h x = let none : 0 + m ≡ m = omega arith in subst (λ k. (rest : List Event) × (h ++ rest ≡ (from k h x).history)) (sym none) (begins m h x)
  goes-on (suc n) m h x =
      let one : suc n + m ≡ suc (n + m) = omega arith in
      subst (λ k. (rest : List Event) × ((from (suc n) h x).history ++ rest ≡ (from k h x).history)) (sym one) (by (turn program budget spurious h seed x) (goes-on n m))
    where
      by : (t : Turn) → ((h : List Event) (x : ℕ) → Goes-on n m h x) →
          (rest : List Event) × ((elim t as (λ t. Run) [ Ends end ↦ record { history = h; finish = end } | Makes entries x' ↦ from n (h ++ entries) x' ]).history ++ rest
          ≡ (elim t as (λ t. Run) [ Ends end ↦ record { history = h; finish = end } | Makes entries x' ↦ from (n + m) (h ++ entries) x' ]).history)
      by (Ends end) more = ([], append-none h)
      by (Makes entries x') more = more (h ++ entries) x'

  -- a run that ended makes nothing more
  ended : (n m : ℕ) (h : List Event) (x : ℕ) → (from n h x).finish ≢ Memory → from (n + m) h x ≡ from n h x
  ended zero m h x sure = absurd (sure refl)
  ended (suc n) m h x sure =
      let one : suc n + m ≡ suc (n + m) = omega arith in ap (λ k. from k h x) one ∙ by (turn program budget spurious h seed x) sure (ended n m)
    where
      by : (t : Turn) → (elim t as (λ t. Run) [ Ends end ↦ record { history = h; finish = end } | Makes entries x' ↦ from n (h ++ entries) x' ]).finish ≢ Memory →
          ((h : List Event) (x : ℕ) → (from n h x).finish ≢ Memory → from (n + m) h x ≡ from n h x) →
          elim t as (λ t. Run) [ Ends end ↦ record { history = h; finish = end } | Makes entries x' ↦ from (n + m) (h ++ entries) x' ]
          ≡ elim t as (λ t. Run) [ Ends end ↦ record { history = h; finish = end } | Makes entries x' ↦ from n (h ++ entries) x' ]
      by (Ends end) sure rest = refl
      by (Makes entries x') sure rest = rest (h ++ entries) x' sure

  pub prefix-begins : (h : List Event) → IsSerialPrefix program budget seed spurious h → (rest : List Event) × (h ++ rest ≡ (serial program budget seed spurious).history)
  prefix-begins h prefix = by (some (prefix.turns) (17 * (budget + 1)))
    where
      enough : ℕ
      enough = 17 * (budget + 1)

      some : (a b : ℕ) → ((m : ℕ) × (a + m ≡ b)) ⊎ ((m : ℕ) × (b + m ≡ a))
      some zero b = inl (b, let e : 0 + b ≡ b = omega arith in e)
      some (suc a) zero = inr (suc a, let e : 0 + suc a ≡ suc a = omega arith in e)
      some (suc a) (suc b) = more (some a b)
        where
          more : ((m : ℕ) × (a + m ≡ b)) ⊎ ((m : ℕ) × (b + m ≡ a)) → ((m : ℕ) × (suc a + m ≡ suc b)) ⊎ ((m : ℕ) × (suc b + m ≡ suc a))
          more (inl there) = inl (there.0, let e = there.1 in omega arith)
          more (inr there) = inr (there.0, let e = there.1 in omega arith)

      by : ((m : ℕ) × (prefix.turns + m ≡ enough)) ⊎ ((m : ℕ) × (enough + m ≡ prefix.turns)) → (rest : List Event) × (h ++ rest ≡ (serial program budget seed spurious).history)
      by (inl there) =
          let more = goes-on prefix.turns there.0 [] seed in
          (more.0, ap (λ es. es ++ more.0) (sym prefix.same) ∙ (more.1 ∙ ap (λ n. (from n [] seed).history) there.1))
      by (inr there) = (
        [],
        append-none h ∙ (sym prefix.same ∙ (ap (λ n. (from n [] seed).history) (sym there.1)
            ∙ ap (λ (run : Run). run.history) (ended enough there.0 [] seed (serial-ends program budget seed spurious)))),
      )

  pub prefix-right : (h : List Event) → IsSerialPrefix program budget seed spurious h → IsRightRun program budget (record { history = h; finish = Memory })
  prefix-right h prefix = subst (λ es. IsRightRun program budget (record { history = es; finish = Memory })) prefix.same (first-turns-right program budget seed spurious prefix.turns)
