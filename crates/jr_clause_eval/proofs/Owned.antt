-- Whether an object is among those owned.
use Rattle.std.proofs.Common.{◌≡◌, ℕ, Bool, true, false, ◌↔◌, List, Contains, refl, ap, arith, nat_eq}
use Rattle.std.proofs.lemmas.Bool.Decides.{nat_tests}
use Rattle.std.specs.Prelude.{IsTrue}
use Rattle.std.proofs.lemmas.List.Folds.{list_any_at}
use Rattle.std.proofs.lemmas.Map.Views.{Contains-from_any}
use Rattle.jr_base.specs.declared.number.ObjId.{ObjId}
use Rattle.jr_meaning.specs.World.{same_object}
use Rattle.jr_clause_eval.specs.Scenes.{owned_in}

same_number : (n : ℕ) → nat_eq n n ≡ true
same_number n = grind (arith, nat_tests)

one_object : (a b : ObjId) → same_object a b ≡ true → a ≡ b
one_object a b h = let e : a.0 ≡ b.0 = grind (arith, nat_tests) in ap (λ (n : ℕ). let o : ObjId = record { 0 = n } in o) e

-- what is in the list is found there
is_found : (object : ObjId) (locks : List ObjId) → Contains locks object → owned_in locks object ≡ true
is_found object locks h = list_any_at (same_object object) locks h.0 object h.1 (rw h.2 (same_number object.0))

-- what is found there is in the list
is_there : (object : ObjId) (locks : List ObjId) → owned_in locks object ≡ true → Contains locks object
is_there object locks h = Contains-from_any one_object object locks h

by_cases : (has found : Bool) → (has ≡ true → found ≡ true) → (found ≡ true → has ≡ true) → has ≡ found
by_cases true found to from = grind arith
by_cases false true to from = from refl
by_cases false false to from = refl

pub owned_by_test : (locks : List ObjId) (object : ObjId) (has : Bool) → (IsTrue has ↔ Contains locks object) → has ≡ owned_in locks object
owned_by_test locks object has h = by_cases has (owned_in locks object) (λ t. is_found object locks (h.0 t)) (λ t. h.1 (is_there object locks t))
