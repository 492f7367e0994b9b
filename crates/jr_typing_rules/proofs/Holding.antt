-- What holds of whatever a rule comes to, where it comes to something; and how that goes on from rule to rule.
use Rattle.std.proofs.Common.{◌≡◌, Bool, true, false, List, [], ◌∷◌, ◌++◌, Option, Some, None, map, refl, append_assoc, append-nil, ℕ, zero, suc, slice_get}
use Rattle.std.specs.List.{flat_map}
use Rattle.jr_base.specs.declared.refusal.Refusal.{Refusal}
use Rattle.jr_typing_rules.specs.Answers.{Typing, Good, Bad, ◌>>=◌, require, found, one_by_one, all_hold, each, gather}

abbrev pub Holds : {A : Type 0} → (A → Type 0) → Typing A → Type 0
Holds P (Good x) = P x
Holds P (Bad r) = Unit {0}

pub holds-good : {A : Type 0} (P : A → Type 0) (t : Typing A) (x : A) → Holds P t → t ≡ Good x → P x
holds-good P t x h e = rw e at h

pub holds-weaker : {A : Type 0} (P Q : A → Type 0) (t : Typing A) → Holds P t → ((x : A) → P x → Q x) → Holds Q t
holds-weaker P Q (Good x) h weaker = weaker x h
holds-weaker P Q (Bad r) h weaker = tt

pub holds-next : {A B : Type 0} (Q : B → Type 0) (t : Typing A) (f : A → Typing B) → ((x : A) → t ≡ Good x → Holds Q (f x)) → Holds Q (t >>= f)
holds-next Q (Good x) f next = next x refl
holds-next Q (Bad r) f next = tt

pub holds-then : {A B : Type 0} (Q : B → Type 0) (P : A → Type 0) (t : Typing A) (f : A → Typing B) → Holds P t → ((x : A) → P x → Holds Q (f x)) → Holds Q (t >>= f)
holds-then Q P (Good x) f p next = next x p
holds-then Q P (Bad r) f p next = tt

pub holds-require : {B : Type 0} (Q : B → Type 0) (b : Bool) (r : Refusal) (f : Unit {0} → Typing B) → (b ≡ true → Holds Q (f tt)) → Holds Q (require b r >>= f)
holds-require Q true r f next = next refl
holds-require Q false r f next = tt

pub holds-found : {A B : Type 0} (Q : B → Type 0) (o : Option A) (r : Refusal) (f : A → Typing B) → ((x : A) → o ≡ Some x → Holds Q (f x)) → Holds Q (found o r >>= f)
holds-found Q (Some x) r f next = next x refl
holds-found Q None r f next = tt

-- what each step keeps, where it is told which items stand before it
pub holds-along : {A S : Type 0} (I : List A → S → Type 0) (step : S → A → Typing S) →
    ((before : List A) (s : S) (x : A) → I before s → Holds (I (before ++ x ∷ [])) (step s x)) →
    (before : List A) (s : S) → I before s → (xs : List A) → Holds (I (before ++ xs)) (one_by_one step s xs)
holds-along I step keeps before s i [] = rw (append-nil before) i
holds-along I step keeps before s i (x ∷ xs) =
    holds-then _ _ (step s x) _ (keeps before s x i) λ t j.
    let rest = holds-along I step keeps (before ++ x ∷ []) t j xs in
    rw (append_assoc before (x ∷ []) xs) at rest

pub same-good : {A : Type 0} (x y : A) → Good x ≡ Good y → x ≡ y
same-good x y e = cc

pub same-some : {A : Type 0} (x y : A) → Some x ≡ Some y → x ≡ y
same-some x y e = cc

-- ---- of each item of a list

abbrev pub Each : {A : Type 0} → (A → Type 0) → List A → Type 0
Each P [] = Unit {0}
Each P (x ∷ xs) = P x × Each P xs

pub Each-append : {A : Type 0} (P : A → Type 0) (xs ys : List A) → Each P xs → Each P ys → Each P (xs ++ ys)
Each-append P [] ys all more = more
Each-append P (x ∷ xs) ys all more = (all.0, Each-append P xs ys all.1 more)

pub Each-left : {A : Type 0} (P : A → Type 0) (xs ys : List A) → Each P (xs ++ ys) → Each P xs
Each-left P [] ys all = tt
Each-left P (x ∷ xs) ys all = (all.0, Each-left P xs ys all.1)

pub Each-right : {A : Type 0} (P : A → Type 0) (xs ys : List A) → Each P (xs ++ ys) → Each P ys
Each-right P [] ys all = all
Each-right P (x ∷ xs) ys all = Each-right P xs ys all.1

pub Each-weaker : {A : Type 0} (P Q : A → Type 0) (xs : List A) → ((x : A) → P x → Q x) → Each P xs → Each Q xs
Each-weaker P Q [] weaker all = tt
Each-weaker P Q (x ∷ xs) weaker all = (weaker x all.0, Each-weaker P Q xs weaker all.1)

pub Each-map : {A B : Type 0} (P : B → Type 0) (f : A → B) (xs : List A) → Each (λ x. P (f x)) xs → Each P (map f xs)
Each-map P f [] all = tt
Each-map P f (x ∷ xs) all = (all.0, Each-map P f xs all.1)

pub Each-flat_map : {A B : Type 0} (P : B → Type 0) (parts : A → List B) (xs : List A) → Each P (flat_map parts xs) → Each (λ x. Each P (parts x)) xs
Each-flat_map P parts [] all = tt
Each-flat_map P parts (x ∷ xs) all =
    (Each-left P (parts x) (flat_map parts xs) all, Each-flat_map P parts xs (Each-right P (parts x) (flat_map parts xs) all))

pub holds-each : {A : Type 0} (P : A → Type 0) (rule : A → Typing (Unit {0})) → ((x : A) → Holds (λ u. P x) (rule x)) → (xs : List A) → Holds (λ u. Each P xs) (all_hold rule xs)
holds-each P rule one [] = tt
holds-each P rule one (x ∷ xs) =
    holds-then (λ u. Each P (x ∷ xs)) (λ u. P x) (rule x) _ (one x) λ u p.
    holds-weaker (λ v. Each P xs) (λ v. Each P (x ∷ xs)) (all_hold rule xs) (holds-each P rule one xs) λ v ps. (p, ps)

-- the same of the parts of each item
pub holds-parts : {A B : Type 0} (P : B → Type 0) (parts : A → List B) (rule : A → Typing (Unit {0})) → ((x : A) → Holds (λ u. Each P (parts x)) (rule x)) →
    (xs : List A) → Holds (λ u. Each P (flat_map parts xs)) (all_hold rule xs)
holds-parts P parts rule one [] = tt
holds-parts P parts rule one (x ∷ xs) =
    holds-then (λ u. Each P (flat_map parts (x ∷ xs))) (λ u. Each P (parts x)) (rule x) _ (one x) λ u p.
    holds-weaker (λ v. Each P (flat_map parts xs)) (λ v. Each P (flat_map parts (x ∷ xs))) (all_hold rule xs) (holds-parts P parts rule one xs)
    λ v ps. Each-append P (parts x) (flat_map parts xs) p ps

pub holds-gather : {A B : Type 0} (R : A → Type 0) (P : B → Type 0) (f : A → Typing (List B)) → ((x : A) → R x → Holds (Each P) (f x)) →
    (xs : List A) → Each R xs → Holds (Each P) (gather f xs)
holds-gather R P f one [] all = tt
holds-gather R P f one (x ∷ xs) all =
    holds-then (Each P) (Each P) (f x) _ (one x all.0) λ ys p.
    holds-then (Each P) (Each P) (gather f xs) _ (holds-gather R P f one xs all.1) λ zs q. Each-append P ys zs p q

pub holds-list : {A B : Type 0} (P : B → Type 0) (f : A → Typing B) → ((x : A) → Holds P (f x)) → (xs : List A) → Holds (Each P) (each f xs)
holds-list P f one [] = tt
holds-list P f one (x ∷ xs) =
    holds-then (Each P) P (f x) _ (one x) λ y p.
    holds-then (Each P) (Each P) (each f xs) _ (holds-list P f one xs) λ ys q. (p, q)

pub Each-get : {A : Type 0} (P : A → Type 0) (xs : List A) (k : ℕ) (x : A) → Each P xs → slice_get xs k ≡ Some x → P x
Each-get P [] k x all e = absurd (cc)
Each-get P (y ∷ ys) zero x all e = let same : y ≡ x = cc in rw same at all.0
Each-get P (y ∷ ys) (suc k) x all e = Each-get P ys k x all.1 e

-- what always holds
pub always : {A : Type 0} (xs : List A) → Each (λ x. Unit {0}) xs
always [] = tt
always (x ∷ xs) = (tt, always xs)

-- what holds of each item in its place
pub Each-placed : {A : Type 0} (P : A → Type 0) (xs : List A) → ((k : ℕ) (x : A) → slice_get xs k ≡ Some x → P x) → Each P xs
Each-placed P [] all = tt
Each-placed P (x ∷ xs) all = (all 0 x refl, Each-placed P xs λ k y found. all (suc k) y found)

pub Each-both : {A : Type 0} (P Q : A → Type 0) (xs : List A) → Each P xs → Each Q xs → Each (λ x. P x × Q x) xs
Each-both P Q [] ps qs = tt
Each-both P Q (x ∷ xs) ps qs = ((ps.0, qs.0), Each-both P Q xs ps.1 qs.1)
