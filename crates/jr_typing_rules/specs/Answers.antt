-- What a rule comes to: a value, or the refusal of what breaks it; and how rules follow one another.
use Rattle.std.specs.Prelude.{Bool, true, false, List, [], ◌∷◌, ◌++◌, Option, Some, None}
use Rattle.jr_base.specs.declared.refusal.Refusal.{Refusal}

pub data Typing (A : Type 0) : Type 0 where
  Good : (value : A) → Typing A
  Bad : (refusal : Refusal) → Typing A

-- one after the other: the first that is broken decides
infixl 10 ◌>>=◌
abbrev pub ◌>>=◌ : {A B : Type 0} → Typing A → (A → Typing B) → Typing B
(Good x) >>= f = f x
(Bad r) >>= f = Bad r

-- what has to hold, else the refusal
abbrev pub require : Bool → Refusal → Typing (Unit {0})
require true r = Good tt
require false r = Bad r

-- what has to be there, else the refusal
abbrev pub found : {A : Type 0} → Option A → Refusal → Typing A
found (Some x) r = Good x
found None r = Bad r

-- what a list leads to from a start, item by item
abbrev pub one_by_one : {A S : Type 0} → (S → A → Typing S) → S → List A → Typing S
one_by_one step s [] = Good s
one_by_one step s (x ∷ xs) = step s x >>= λ t. one_by_one step t xs

-- all of a list hold, from left to right
abbrev pub all_hold : {A : Type 0} → (A → Typing (Unit {0})) → List A → Typing (Unit {0})
all_hold rule [] = Good tt
all_hold rule (x ∷ xs) = rule x >>= λ u. all_hold rule xs

-- each of a list, from left to right
abbrev pub each : {A B : Type 0} → (A → Typing B) → List A → Typing (List B)
each f [] = Good []
each f (x ∷ xs) = f x >>= λ y. each f xs >>= λ ys. Good (y ∷ ys)

-- all that each of a list has, from left to right
abbrev pub gather : {A B : Type 0} → (A → Typing (List B)) → List A → Typing (List B)
gather f [] = Good []
gather f (x ∷ xs) = f x >>= λ ys. gather f xs >>= λ zs. Good (ys ++ zs)
