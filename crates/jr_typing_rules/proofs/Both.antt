-- Two rules over the same part of a source: what holds of both results, where both come to something.
use Rattle.std.proofs.Common.{◌≡◌, Bool, true, false, List, [], ◌∷◌, refl, sym}
use Rattle.jr_base.specs.declared.refusal.Refusal.{Refusal}
use Rattle.jr_typing_rules.specs.Answers.{Typing, Good, Bad, ◌>>=◌, require, one_by_one}
use Rattle.jr_typing_rules.proofs.Holding.{Holds}

abbrev pub Both : {A B : Type 0} → (A → B → Type 0) → Typing A → Typing B → Type 0
Both P u v = Holds (λ a. Holds (P a) v) u

pub holds-always : {A : Type 0} (t : Typing A) → Holds (λ x. Unit {0}) t
holds-always (Good x) = tt
holds-always (Bad r) = tt

pub holds-when : {A : Type 0} (P : Type 0) (t : Typing A) → P → Holds (λ x. P) t
holds-when P (Good x) p = p
holds-when P (Bad r) p = tt

pub holds-and : {A : Type 0} (P Q : A → Type 0) (t : Typing A) → Holds P t → Holds Q t → Holds (λ x. P x × Q x) t
holds-and P Q (Good x) p q = (p, q)
holds-and P Q (Bad r) p q = tt

pub both-then : {A B C D : Type 0} (P : A → B → Type 0) (Q : C → D → Type 0) (u : Typing A) (v : Typing B) (f : A → Typing C) (g : B → Typing D) →
    Both P u v → ((a : A) (b : B) → P a b → Both Q (f a) (g b)) → Both Q (u >>= f) (v >>= g)
both-then P Q (Good a) (Good b) f g p next = next a b p
both-then P Q (Good a) (Bad r) f g p next = holds-always (f a)
both-then P Q (Bad r) v f g p next = tt

-- the second rule goes on
pub both-second : {A B C : Type 0} (P : A → B → Type 0) (Q : A → C → Type 0) (u : Typing A) (v : Typing B) (g : B → Typing C) →
    Both P u v → ((a : A) (b : B) → P a b → Holds (Q a) (g b)) → Both Q u (v >>= g)
both-second P Q (Good a) (Good b) g p next = next a b p
both-second P Q (Good a) (Bad r) g p next = tt
both-second P Q (Bad r) v g p next = tt

-- both begin with the same
pub both-same : {X A B : Type 0} (Q : A → B → Type 0) (u v : Typing X) (f : X → Typing A) (g : X → Typing B) → u ≡ v →
    ((x : X) → Both Q (f x) (g x)) → Both Q (u >>= f) (v >>= g)
both-same Q (Good x) v f g same next = rw (sym same) (next x)
both-same Q (Bad r) v f g same next = tt

pub both-require : {A B : Type 0} (Q : A → B → Type 0) (u : Typing A) (b : Bool) (r : Refusal) (g : Unit {0} → Typing B) →
    (b ≡ true → Both Q u (g tt)) → Both Q u (require b r >>= g)
both-require Q u true r g next = next refl
both-require Q u false r g next = holds-always u

-- what both keep, item by item
pub both-along : {A S T : Type 0} (I : S → T → Type 0) (f : S → A → Typing S) (g : T → A → Typing T) →
    ((s : S) (t : T) (x : A) → I s t → Both I (f s x) (g t x)) → (s : S) (t : T) → I s t → (xs : List A) → Both I (one_by_one f s xs) (one_by_one g t xs)
both-along I f g keeps s t i [] = i
both-along I f g keeps s t i (x ∷ xs) = both-then I I (f s x) (g t x) _ _ (keeps s t x i) λ s t j. both-along I f g keeps s t j xs
