-- Lists of single clauses, one more at a time.
use Rattle.std.proofs.Common.{◌≡◌, ◌<◌, ◌+◌, ◌⊎◌, ℕ, zero, suc, List, [], ◌∷◌, ◌++◌, length, slice_get, Some, refl, arith, length-append, inl, inr}
use Rattle.jr_base.specs.declared.number.ClauseId.{ClauseId}
use Rattle.jr_program.specs.UnitViews.{AreAlone}

get_before : {A : Type 0} (xs ys : List A) (k : ℕ) → k < length xs → slice_get (xs ++ ys) k ≡ slice_get xs k
get_before [] ys k below = absurd (omega arith)
get_before (x ∷ xs) ys zero below = refl
get_before (x ∷ xs) ys (suc k) below = get_before xs ys k (omega arith)

get_last : {A : Type 0} (xs : List A) (y : A) (k : ℕ) → k ≡ length xs → slice_get (xs ++ y ∷ []) k ≡ Some y
get_last [] y zero is = refl
get_last [] y (suc k) is = absurd (omega arith)
get_last (x ∷ xs) y zero is = absurd (omega arith)
get_last (x ∷ xs) y (suc k) is = get_last xs y k (omega arith)

before_or_last : (k n : ℕ) → k < n + 1 → (k < n) ⊎ (k ≡ n)
before_or_last k n below = grind arith

pub alone_none : AreAlone 0 []
alone_none = record { all = refl; each = λ k below. absurd (omega arith) }

each_more : (n : ℕ) (lists : List (List ClauseId)) → AreAlone n lists → (k : ℕ) → (k < n) ⊎ (k ≡ n) → slice_get (lists ++ (record { 0 = n + 1 } ∷ []) ∷ []) k ≡ Some (record { 0 = k + 1 } ∷ [])
each_more n lists are k (inl below) = rw (get_before lists ((record { 0 = n + 1 } ∷ []) ∷ []) k (omega (arith, are.all))) (are.each k below)
each_more n lists are k (inr is) = rw is (get_last lists (record { 0 = n + 1 } ∷ []) n (omega (arith, are.all)))

pub alone_more : (n : ℕ) (lists : List (List ClauseId)) → AreAlone n lists → AreAlone (n + 1) (lists ++ (record { 0 = n + 1 } ∷ []) ∷ [])
alone_more n lists are = record {
  all = omega (arith, length-append lists ((record { 0 = n + 1 } ∷ []) ∷ []), are.all);
  each = λ k below. each_more n lists are k (before_or_last k n below);
}
