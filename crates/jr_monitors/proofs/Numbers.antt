-- What stands at a number that counts from 1.
use Rattle.std.proofs.Common.{◌≡◌, ◌≢◌, ◌<◌, ◌≤◌, ◌-◌, inl, inr, ℕ, zero, suc, Bool, true, false, cond, ◌==◌, eq-eqb, ne_eqb, eqb-true, List, [], ◌∷◌, ◌++◌, length, set, get_or, slice_get, Option, Some, None, refl, sym, ap, ◌∙◌, arith}
use Rattle.std.specs.Option.{option_map_or}
use Rattle.std.proofs.lemmas.Bool.{cases_eq, eqb-false}
use Rattle.jr_program.specs.Programs.{numbered}

less_one : (n : ℕ) → n ≡ suc n - 1
less_one n = omega arith

pub numbered_is : {A : Type 0} (xs : List A) (n : ℕ) → 0 < n → numbered xs n ≡ slice_get xs (n - 1)
numbered_is xs zero above = absurd (omega arith)
numbered_is xs (suc n) above = ap (λ k. slice_get xs k) (less_one n)

got_same : {A : Type 0} (xs : List A) (k : ℕ) (x : A) → k < length xs → slice_get (set xs k x) k ≡ Some x
got_same [] k x within = absurd (omega (arith, within))
got_same (y ∷ ys) zero x within = refl
got_same (y ∷ ys) (suc k) x within = got_same ys k x (omega (arith, within))

got_other : {A : Type 0} (xs : List A) (k j : ℕ) (x : A) → j ≢ k → slice_get (set xs k x) j ≡ slice_get xs j
got_other [] k j x other = refl
got_other (y ∷ ys) zero zero x other = absurd (other refl)
got_other (y ∷ ys) zero (suc j) x other = refl
got_other (y ∷ ys) (suc k) zero x other = refl
got_other (y ∷ ys) (suc k) (suc j) x other = got_other ys k j x (λ e. other (ap suc e))

-- after a write at a number
pub numbered_set : {A : Type 0} (xs : List A) (n m : ℕ) (x : A) → 0 < n → n ≤ length xs
    → numbered (set xs (n - 1) x) m ≡ cond (m == n) (Some x) (numbered xs m)
numbered_set xs n zero x above within =
    let other : (zero == n) ≡ false = ne_eqb zero n (λ e. omega (arith, e, above)) in
    sym (ap (λ b. cond b (Some x) None) other)
numbered_set xs n (suc m) x above within = elim (cases_eq (suc m) n) [
  | inl same ↦
      let at : m ≡ n - 1 = omega (arith, same) in
      let is : (suc m == n) ≡ true = eq-eqb (suc m) n same in
      ap (λ k. slice_get (set xs (n - 1) x) k) at ∙ (got_same xs (n - 1) x (omega (arith, above, within)) ∙ sym (ap (λ b. cond b (Some x) (slice_get xs m)) is))
  | inr other ↦
      let apart : m ≢ n - 1 = λ e. other (omega (arith, e, above)) in
      let is : (suc m == n) ≡ false = ne_eqb (suc m) n other in
      got_other xs (n - 1) m x apart ∙ sym (ap (λ b. cond b (Some x) (slice_get xs m)) is)
]

got_within : {A : Type 0} (xs : List A) (k : ℕ) (x : A) → slice_get xs k ≡ Some x → k < length xs
got_within [] k x is = cc
got_within (y ∷ ys) zero x is = omega arith
got_within (y ∷ ys) (suc k) x is = let h = got_within ys k x is in omega (arith, h)

-- a number at which something stands
pub numbered_above : {A : Type 0} (xs : List A) (n : ℕ) (x : A) → numbered xs n ≡ Some x → 0 < n
numbered_above xs zero x is = cc
numbered_above xs (suc n) x is = omega arith

pub numbered_within : {A : Type 0} (xs : List A) (n : ℕ) (x : A) → numbered xs n ≡ Some x → n ≤ length xs
numbered_within xs zero x is = cc
numbered_within xs (suc n) x is = let h = got_within xs n x is in omega (arith, h)

-- an item is the same whatever the default
pub at_any : {A : Type 0} (xs : List A) (k : ℕ) (c d : A) → k < length xs → get_or xs k c ≡ get_or xs k d
at_any [] k c d within = absurd (omega (arith, within))
at_any (x ∷ xs) zero c d within = refl
at_any (x ∷ xs) (suc k) c d within = at_any xs k c d (omega (arith, within))

flip_true : (a b : ℕ) (t : Bool) → (a == b) ≡ t → (b == a) ≡ t
flip_true a b true e = eq-eqb b a (sym (eqb-true a b e))
flip_true a b false e = ne_eqb b a (λ same. eqb-false a b e (sym same))

pub flip : (a b : ℕ) → (a == b) ≡ (b == a)
flip a b = sym (flip_true a b (a == b) refl)

got_push : {A B : Type 0} (f : A → Option B) (xs : List A) (x : A) (k : ℕ) → f x ≡ None
    → option_map_or f (slice_get (xs ++ x ∷ []) k) None ≡ option_map_or f (slice_get xs k) None
got_push f [] x zero none = none
got_push f [] x (suc k) none = refl
got_push f (y ∷ ys) x zero none = refl
got_push f (y ∷ ys) x (suc k) none = got_push f ys x k none

-- an item more that shows nothing
pub numbered_push : {A B : Type 0} (f : A → Option B) (xs : List A) (x : A) (n : ℕ) → f x ≡ None
    → option_map_or f (numbered (xs ++ x ∷ []) n) None ≡ option_map_or f (numbered xs n) None
numbered_push f xs x zero none = refl
numbered_push f xs x (suc n) none = got_push f xs x n none
