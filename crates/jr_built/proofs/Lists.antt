-- What holds of each item of a list, and of each part of a built program.
use Rattle.std.proofs.Common.{◌≡◌, ◌≤◌, ◌+◌, ◌&&◌, ℕ, zero, suc, Bool, true, false, List, [], ◌∷◌, Some, length, drop, slice_get, sym, ap, subst, ◌∙◌, drop_of_length-le, add-one}
use Rattle.std.specs.List.{list_all}
use Rattle.std.proofs.lemmas.Bool.{and_parts}
use Rattle.jr_program.specs.Programs.{Program}
use Rattle.jr_built.specs.Built.{class_is_built, method_is_built, clause_is_built, is_built}

same : {A : Type 0} (x y : A) → Some x ≡ Some y → x ≡ y
same x y e = cc

-- an item of a list whose items all pass
pub passes : {A : Type 0} (test : A → Bool) (xs : List A) (n : ℕ) (x : A) → list_all test xs ≡ true → slice_get xs n ≡ Some x → test x ≡ true
passes test [] n x all at = absurd (none n at)
  where
    none : (n : ℕ) → slice_get [] n ≡ Some x → ⊥
    none zero e = cc
    none (suc n) e = cc
passes test (y ∷ xs) zero x all at = subst (λ z. test z ≡ true) (same y x at) (and_parts (test y) (list_all test xs) all).0
passes test (y ∷ xs) (suc n) x all at = passes test xs n x (and_parts (test y) (list_all test xs) all).1 at

-- the item at a place, and the rest
all_at : {A : Type 0} (test : A → Bool) (xs : List A) (n : ℕ) (x : A) → slice_get xs n ≡ Some x →
    list_all test (drop n xs) ≡ (test x && list_all test (drop (suc n) xs))
all_at test [] zero x at = cc
all_at test [] (suc n) x at = cc
all_at test (y ∷ xs) zero x at = ap (λ z. test z && list_all test xs) (same y x at)
all_at test (y ∷ xs) (suc n) x at = all_at test xs n x at

-- a walk over a list goes on behind an item that passes, and stops at one that doesn't
pub walk_on : {A : Type 0} (test : A → Bool) (xs : List A) (n : ℕ) (x : A) → slice_get xs n ≡ Some x → list_all test xs ≡ list_all test (drop n xs) →
    test x ≡ true → list_all test xs ≡ list_all test (drop (n + 1) xs)
walk_on test xs n x at so passed =
    so ∙ all_at test xs n x at ∙ ap (λ b. b && list_all test (drop (suc n) xs)) passed ∙ ap (λ k. list_all test (drop k xs)) (sym (add-one n))

pub walk_stops : {A : Type 0} (test : A → Bool) (xs : List A) (n : ℕ) (x : A) → slice_get xs n ≡ Some x → list_all test xs ≡ list_all test (drop n xs) →
    test x ≡ false → list_all test xs ≡ false
walk_stops test xs n x at so failed = so ∙ all_at test xs n x at ∙ ap (λ b. b && list_all test (drop (suc n) xs)) failed

pub all_end : {A : Type 0} (test : A → Bool) (xs : List A) (n : ℕ) → length xs ≤ n → list_all test (drop n xs) ≡ true
all_end test xs n le = ap (list_all test) (drop_of_length-le xs {i = n} le)

pub built-parts : (program : Program) → is_built program ≡ true →
    (list_all class_is_built program.classes ≡ true) × (list_all method_is_built program.methods ≡ true) × (list_all clause_is_built program.clauses ≡ true)
built-parts program built =
    let all = and_parts (list_all class_is_built program.classes) (list_all method_is_built program.methods && list_all clause_is_built program.clauses) built in
    let rest = and_parts (list_all method_is_built program.methods) (list_all clause_is_built program.clauses) all.1 in
    (all.0, rest.0, rest.1)
