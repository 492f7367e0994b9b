-- What stands at a number that counts from 1.
use Rattle.std.proofs.Common.{◌≡◌, ◌<◌, ◌-◌, ℕ, zero, suc, List, [], ◌∷◌, map, slice_get, option_map, Some, ap, ◌∙◌, arith}
use Rattle.jr_program.specs.Programs.{numbered}

less_one : (n : ℕ) → n ≡ suc n - 1
less_one n = omega arith

pub numbered_is : {A : Type 0} (xs : List A) (n : ℕ) → 0 < n → numbered xs n ≡ slice_get xs (n - 1)
numbered_is xs zero above = absurd (omega arith)
numbered_is xs (suc n) above = ap (λ k. slice_get xs k) (less_one n)

got : {A B : Type 0} (f : A → B) (xs : List A) (k : ℕ) (x : A) → slice_get xs k ≡ Some x → slice_get (map f xs) k ≡ Some (f x)
got f [] k x is = absurd (cc)
got f (y ∷ ys) zero x is = ap (option_map f) is
got f (y ∷ ys) (suc k) x is = got f ys k x is

pub mapped : {A B : Type 0} (f : A → B) (xs : List A) (n : ℕ) (x : A) → 0 < n → slice_get xs (n - 1) ≡ Some x → numbered (map f xs) n ≡ Some (f x)
mapped f xs n x above is = numbered_is (map f xs) n above ∙ got f xs (n - 1) x is
