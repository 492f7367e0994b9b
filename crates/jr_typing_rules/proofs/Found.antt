-- What holds of what is found, where something is.
use Rattle.std.proofs.Common.{◌≡◌, Bool, true, false, cond, List, [], ◌∷◌, Option, Some, None, refl}
use Rattle.std.specs.Prelude.{find}
use Rattle.std.specs.Option.{option_map}
use Rattle.jr_typing_rules.specs.Operators.{or_else}
use Rattle.jr_typing_rules.proofs.Holding.{Each}

abbrev pub Found : {A : Type 0} → (A → Type 0) → Option A → Type 0
Found P (Some x) = P x
Found P None = Unit {0}

pub found-some : {A : Type 0} (P : A → Type 0) (o : Option A) (x : A) → Found P o → o ≡ Some x → P x
found-some P o x all e = rw e at all

pub found-map : {A B : Type 0} (P : B → Type 0) (f : A → B) (o : Option A) → ((x : A) → o ≡ Some x → P (f x)) → Found P (option_map f o)
found-map P f (Some x) all = all x refl
found-map P f None all = tt

pub found-if : {A : Type 0} (P : A → Type 0) (b : Bool) (o other : Option A) → (b ≡ true → Found P o) → Found P other → Found P (cond b o other)
found-if P true o other first second = first refl
found-if P false o other first second = second

pub found-else : {A : Type 0} (P : A → Type 0) (o other : Option A) → Found P o → Found P other → Found P (or_else o other)
found-else P (Some x) other one two = one
found-else P None other one two = two

-- what holds of each of a list
pub find-each : {A : Type 0} (P : A → Type 0) (test : A → Bool) (xs : List A) → Each P xs → Found P (find test xs)
find-each P test [] all = tt
find-each P test (x ∷ xs) all = by (test x) (find-each P test xs all.1)
  where
    by : (b : Bool) → Found P (find test xs) → Found P (cond b (Some x) (find test xs))
    by true later = all.0
    by false later = later
