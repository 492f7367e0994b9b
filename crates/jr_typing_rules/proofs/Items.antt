-- What holds of the items of a list in their places.
use Rattle.std.proofs.Common.{◌≡◌, ◌<◌, ◌⊎◌, inl, inr, ℕ, zero, suc, List, [], ◌∷◌, ◌++◌, length, Some, slice_get, refl, sym, arith}

-- an item of a longer list is one of the shorter, or the last
next-or-last : {A : Type 0} (xs : List A) (y x : A) (k : ℕ) → slice_get (xs ++ y ∷ []) k ≡ Some x → (slice_get xs k ≡ Some x) ⊎ ((k ≡ length xs) × (y ≡ x))
next-or-last [] y x zero e = inr (refl, cc)
next-or-last [] y x (suc k) e = absurd (cc)
next-or-last (z ∷ xs) y x zero e = inl e
next-or-last (z ∷ xs) y x (suc k) e = by (next-or-last xs y x k e)
  where
    by : (slice_get xs k ≡ Some x) ⊎ ((k ≡ length xs) × (y ≡ x)) → (slice_get xs k ≡ Some x) ⊎ ((suc k ≡ length (z ∷ xs)) × (y ≡ x))
    by (inl found) = inl found
    by (inr last) = inr (omega (arith, last.0), last.1)

-- what holds of each item in its place holds with one more
pub with-last : {A : Type 0} (P : ℕ → A → Type 0) (xs : List A) (y : A) → ((k : ℕ) (x : A) → slice_get xs k ≡ Some x → P k x) → P (length xs) y →
    (k : ℕ) (x : A) → slice_get (xs ++ y ∷ []) k ≡ Some x → P k x
with-last P xs y all last k x e = by (next-or-last xs y x k e)
  where
    by : (slice_get xs k ≡ Some x) ⊎ ((k ≡ length xs) × (y ≡ x)) → P k x
    by (inl found) = all k x found
    by (inr same) = rw (same.0, sym same.1) last

pub is-there : {A : Type 0} (xs : List A) (k : ℕ) → k < length xs → (x : A) × (slice_get xs k ≡ Some x)
is-there [] k below = absurd (omega (arith, below))
is-there (x ∷ xs) zero below = (x, refl)
is-there (x ∷ xs) (suc k) below = is-there xs k (omega (arith, below))

pub same-place : {A : Type 0} (xs ys : List A) (k : ℕ) (x : A) → xs ≡ ys → slice_get xs k ≡ Some x → slice_get ys k ≡ Some x
same-place xs ys k x same found = rw same at found

pub at-number : {A : Type 0} (xs : List A) (n k : ℕ) (x : A) → n ≡ k → slice_get xs k ≡ Some x → slice_get xs n ≡ Some x
at-number xs n k x same found = rw same found
