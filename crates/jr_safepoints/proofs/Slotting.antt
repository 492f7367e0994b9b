-- The counts of classes' fields, where one more is counted.
use Rattle.std.proofs.Common.{◌≡◌, ◌==◌, ◌≢◌, ◌<◌, ◌⊎◌, ◌&&◌, inl, inr, ℕ, zero, suc, ◌+◌, Bool, true, false, cond, List, [], ◌∷◌, ◌++◌, length, get_or, set, refl, sym, ap, ◌∙◌, arith}
use Rattle.std.specs.Bool.{beq}
use Rattle.std.specs.List.{count_by}
use Rattle.std.proofs.lemmas.Bool.{cases_eq, ne_eqb, eq-eqb}
use Rattle.std.proofs.lemmas.List.{get_or-set_same, get_or-set_other, get_or_default}
use Rattle.std.proofs.lemmas.List.Sums.{sum_by-append}
use Rattle.jr_base.specs.declared.number.ClassId.{ClassId}
use Rattle.jr_program.specs.Programs.{Field}
use Rattle.jr_program.specs.Slots.{is_of}
use Rattle.jr_safepoints.specs.Slotted.{AreCounted, CountsAll}
use Rattle.jr_safepoints.specs.declared.slots.Slots.{Slots}

-- a zero at the end changes no count
pub still_same : (counts : List ℕ) (n : ℕ) → get_or (counts ++ 0 ∷ []) n 0 ≡ get_or counts n 0
still_same [] zero = refl
still_same [] (suc n) = refl
still_same (c ∷ counts) zero = refl
still_same (c ∷ counts) (suc n) = still_same counts n

nothing-more : (n : ℕ) → n ≡ n + 0
nothing-more n = omega arith

pub one_more : (class before new : ℕ) (first counts : List ℕ) → class < length counts → before ≡ get_or counts class before → new ≡ before + 1 → ((n : ℕ) → get_or counts n 0 ≡ get_or first n 0) →
    (n : ℕ) → get_or (set counts class new) n 0 ≡ get_or first n 0 + cond (class == n) 1 0
one_more class before new first counts below found more same n = by (cases_eq class n)
  where
    by : (class ≡ n) ⊎ (class ≢ n) → get_or (set counts class new) n 0 ≡ get_or first n 0 + cond (class == n) 1 0
    by (inl e) =
        let here : before ≡ get_or counts n 0 = found ∙ get_or_default counts class before 0 below ∙ ap (λ k. get_or counts k 0) e in
        ap (λ k. get_or (set counts class new) k 0) (sym e) ∙ get_or-set_same counts class new 0 below ∙ more
        ∙ ap (λ m. m + 1) (here ∙ same n) ∙ ap (λ b. get_or first n 0 + cond b 1 0) (sym (eq-eqb class n e))
    by (inr other) =
        get_or-set_other counts class n new 0 (λ e. other (sym e)) ∙ same n ∙ nothing-more (get_or first n 0)
        ∙ ap (λ b. get_or first n 0 + cond b 1 0) (sym (ne_eqb class n other))

pub first_count : (class before : ℕ) (first counts : List ℕ) → class < length counts → before ≡ get_or counts class before → ((n : ℕ) → get_or counts n 0 ≡ get_or first n 0) → before ≡ get_or first class 0
first_count class before first counts below found same = found ∙ get_or_default counts class before 0 below ∙ same class

count-last : (p : Field → Bool) (fields : List Field) (f : Field) → count_by p (fields ++ f ∷ []) ≡ count_by p fields + cond (p f) 1 0
count-last p fields f =
    let e : 0 + cond (p f) 1 0 ≡ cond (p f) 1 0 = omega arith in
    sum_by-append (λ (g : Field). cond (p g) 1 0) fields (f ∷ []) ∙ ap (λ n. count_by p fields + n) e

and-true : (b : Bool) → (b && true) ≡ b
and-true true = refl
and-true false = refl

and-false : (b : Bool) → (b && false) ≡ false
and-false true = refl
and-false false = refl

-- a field that lies there is one more
one-there : (b : Bool) (class : ClassId) (fields : List Field) (f : Field) (old new : List ℕ) → f.class ≡ class → (beq f.is_static b) ≡ true → AreCounted b fields old →
    ((n : ℕ) → get_or new n 0 ≡ get_or old n 0 + cond (class.0 == n) 1 0) → AreCounted b (fields ++ f ∷ []) new
one-there b class fields f old new own lies counted more n =
    let p = is_of (record { 0 = n }) b in
    let is : p f ≡ (class.0 == n) = ap (λ x. (f.class.0 == n) && x) lies ∙ and-true (f.class.0 == n) ∙ ap (λ (c : ClassId). c.0 == n) own in
    more n ∙ ap (λ m. m + cond (class.0 == n) 1 0) (counted n) ∙ ap (λ x. count_by p fields + cond x 1 0) (sym is) ∙ sym (count-last p fields f)

-- one that lies elsewhere is none
none-there : (b : Bool) (fields : List Field) (f : Field) (counts : List ℕ) → (beq f.is_static b) ≡ false → AreCounted b fields counts → AreCounted b (fields ++ f ∷ []) counts
none-there b fields f counts lies counted n =
    let p = is_of (record { 0 = n }) b in
    let is : p f ≡ false = ap (λ x. (f.class.0 == n) && x) lies ∙ and-false (f.class.0 == n) in
    counted n ∙ nothing-more (count_by p fields) ∙ ap (λ x. count_by p fields + cond x 1 0) (sym is) ∙ sym (count-last p fields f)

pub static_counted : (class : ClassId) (fields : List Field) (f : Field) (old new : Slots) → f.class ≡ class → f.is_static ≡ true → CountsAll fields old →
    ((n : ℕ) → get_or new.statics.items n 0 ≡ get_or old.statics.items n 0 + cond (class.0 == n) 1 0) → new.others.items ≡ old.others.items → CountsAll (fields ++ f ∷ []) new
static_counted class fields f old new own static counted more same = record {
  statics = one-there true class fields f old.statics.items new.statics.items own (ap (λ b. beq b true) static) counted.statics more;
  others = rw same (none-there false fields f old.others.items (ap (λ b. beq b false) static) counted.others);
}

pub other_counted : (class : ClassId) (fields : List Field) (f : Field) (old new : Slots) → f.class ≡ class → f.is_static ≡ false → CountsAll fields old →
    ((n : ℕ) → get_or new.others.items n 0 ≡ get_or old.others.items n 0 + cond (class.0 == n) 1 0) → new.statics.items ≡ old.statics.items → CountsAll (fields ++ f ∷ []) new
other_counted class fields f old new own static counted more same = record {
  statics = rw same (none-there true fields f old.statics.items (ap (λ b. beq b true) static) counted.statics);
  others = one-there false class fields f old.others.items new.others.items own (ap (λ b. beq b false) static) counted.others more;
}
