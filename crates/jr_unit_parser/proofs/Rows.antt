-- Loops that read one after the other.
use Rattle.std.proofs.Common.{◌≡◌, ℕ, Bool, true, false, List, [], ◌∷◌, ◌++◌, map, refl, sym, ap, ◌∙◌, subst, append_assoc, append-nil, arith}
use Rattle.std.specs.Prelude.{All}
use Rattle.std.proofs.lemmas.List.Elements.{All-head, All-tail, All-append, All-cons}
use Rattle.jr_base.specs.declared.refusal.Refusal.{Refusal}
use Rattle.jr_base.specs.declared.refusal.Refusal.TheVariants as refusal
use Rattle.jr_base.specs.declared.refusal.Fail.{Fail}
use Rattle.jr_base.specs.declared.refusal.Fail.TheVariants.{Memory, Refused}
use Rattle.jr_lexer.specs.Token.{Token}
use Rattle.jr_unit_parser.specs.Grammar as g
use Rattle.jr_unit_parser.specs.Grammar.{Many}
use Rattle.jr_reading.specs.Answers.{Fits}
use Rattle.jr_unit_parser.specs.Finds.{Concerns, Fails, AllOf}

-- What the relation One says at most once of an index. The test says where one begins.
pub record Rows {A : Type 0} (One : ℕ → A → ℕ → Type 0) (begins : ℕ → Bool) : Type 0 where
  pub unique : (i j m : ℕ) (x y : A) → One i x j → One i y m → (x ≡ y) × (j ≡ m)
  pub begun : (i j : ℕ) (x : A) → One i x j → begins i ≡ true

-- The xs were read from the start up to an index: what stands from there on stands from the start behind the
-- xs, and all that stands from the start begins with the xs.
pub record SoFar {A : Type 0} (One : ℕ → A → ℕ → Type 0) (Shallow : A → Type 0) (begins : ℕ → Bool) (start : ℕ) (xs : List A) (at : ℕ) : Type 0 where
  pub onto : (ys : List A) (j : ℕ) → Many One at ys j → Many One start (xs ++ ys) j
  pub all : (zs : List A) (j : ℕ) → AllOf One begins start zs j → (ys : List A) × (zs ≡ xs ++ ys) × AllOf One begins at ys j
  pub shallow : All Shallow xs

pub joined : {A : Type 0} {One : ℕ → A → ℕ → Type 0} {i j m : ℕ} {xs ys : List A} → Many One i xs j → Many One j ys m → Many One i (xs ++ ys) m
joined g.none more = more
joined (g.one_more one rest) more = g.one_more one (joined rest more)

-- what was read stands there
pub read_so_far : {A : Type 0} {One : ℕ → A → ℕ → Type 0} {Shallow : A → Type 0} {begins : ℕ → Bool} {start at : ℕ} {xs : List A} → SoFar One Shallow begins start xs at → Many One start xs at
read_so_far {One = One} {start = start} {at = at} {xs = xs} s = subst (λ zs. Many One start zs at) (append-nil xs) (s.onto [] at g.none)

not_both : (b : Bool) → b ≡ true → b ≡ false → ⊥
not_both b e f = let both = sym e ∙ f in absurd cc

pub concerns_to : (r : Refusal) (S T : Type 0) → (S → T) → Concerns r S → Concerns r T
concerns_to (refusal.TooDeep s) S T f c = f c
concerns_to _ S T f c = tt

module _ {A : Type 0} (ts : List Token) (One : ℕ → A → ℕ → Type 0) (Shallow : A → Type 0) (begins : ℕ → Bool) where
  pub so_far_none : (start : ℕ) → SoFar One Shallow begins start [] start
  so_far_none start = record { onto = λ ys j m. m; all = λ zs j a. (zs, refl, a); shallow = λ k d below. absurd (omega arith) }

  every_middle : (xs : List A) (x : A) (ys : List A) → All Shallow (xs ++ x ∷ ys) → Shallow x
  every_middle [] x ys a = All-head Shallow x ys a
  every_middle (z ∷ xs) x ys a = every_middle xs x ys (All-tail Shallow z (xs ++ x ∷ ys) a)

  every_more : (xs : List A) (x : A) → All Shallow xs → Shallow x → All Shallow (xs ++ x ∷ [])
  every_more xs x a s = All-append Shallow xs (x ∷ []) a (All-cons Shallow x [] s (λ k d below. absurd (omega arith)))

  -- what goes on at an index where the one is x, goes on behind x
  behind_many : Rows One begins → (at j m : ℕ) (x : A) (ys : List A) → One at x j → Many One at ys m → begins m ≡ false → (zs : List A) × (ys ≡ x ∷ zs) × AllOf One begins j zs m
  behind_many rows at j m x ys one g.none ended = absurd (not_both (begins at) (rows.begun at j x one) ended)
  behind_many rows at j m x ys one (g.one_more {j = n} {x = y} {xs = zs} other rest) ended =
      let same = rows.unique at j n x y one other in
      (zs, ap (λ (y : A). y ∷ zs) (sym same.0), record { many = subst (λ n. Many One n zs m) (sym same.1) rest; ended = ended })

  behind_one : Rows One begins → (at j : ℕ) (x : A) → One at x j → (ys : List A) (m : ℕ) → AllOf One begins at ys m → (zs : List A) × (ys ≡ x ∷ zs) × AllOf One begins j zs m
  behind_one rows at j x one ys m a = behind_many rows at j m x ys one a.many a.ended

  pub one_more : Rows One begins → (start at j : ℕ) (xs : List A) (x : A) → SoFar One Shallow begins start xs at → One at x j → Shallow x → SoFar One Shallow begins start (xs ++ x ∷ []) j
  one_more rows start at j xs x s one shallow = record {
    onto = λ ys m many. subst (λ zs. Many One start zs m) (sym (append_assoc xs (x ∷ []) ys)) (s.onto (x ∷ ys) m (g.one_more one many));
    all = λ zs m a.
        let before = s.all zs m a in
        let b = behind_one rows at j x one before.0 m before.2 in
        (b.0, before.1 ∙ ap (λ (ys : List A). xs ++ ys) b.1 ∙ sym (append_assoc xs (x ∷ []) b.0), b.2);
    shallow = every_more xs x s.shallow shallow;
  }

  pub all_found : (start at : ℕ) (xs : List A) → SoFar One Shallow begins start xs at → begins at ≡ false → Fits (AllOf One begins start) (All Shallow) xs at
  all_found start at xs s ended = record {
    stands = record { many = read_so_far s; ended = ended };
    shallow = s.shallow;
  }

  nothing_many : (at j : ℕ) (xs ys : List A) (r : Refusal) → begins at ≡ true → ((x : A) (j : ℕ) → One at x j → Concerns r (Shallow x) → ⊥) → Many One at ys j → begins j ≡ false → Concerns r (All Shallow (xs ++ ys)) → ⊥
  nothing_many at j xs ys r goes nothing g.none ended concerns = not_both (begins at) goes ended
  nothing_many at j xs ys r goes nothing (g.one_more {j = n} {x = x} {xs = rest} one more) ended concerns =
      nothing x n one (concerns_to r (All Shallow (xs ++ x ∷ rest)) (Shallow x) (λ all. every_middle xs x rest all) concerns)

  nothing_more : (start at : ℕ) (xs : List A) (r : Refusal) → SoFar One Shallow begins start xs at → begins at ≡ true → ((x : A) (j : ℕ) → One at x j → Concerns r (Shallow x) → ⊥) → (zs : List A) (j : ℕ) → AllOf One begins start zs j → Concerns r (All Shallow zs) → ⊥
  nothing_more start at xs r s goes nothing zs j a concerns =
      let before = s.all zs j a in
      nothing_many at j xs before.0 r goes nothing before.2.many before.2.ended (concerns_to r (All Shallow zs) (All Shallow (xs ++ before.0)) (λ all. subst (λ zs. All Shallow zs) before.1 all) concerns)

  pub all_fail : (start at : ℕ) (xs : List A) (e : Fail) → SoFar One Shallow begins start xs at → begins at ≡ true → Fails ts One Shallow at e → Fails ts (AllOf One begins) (All Shallow) start e
  all_fail start at xs Memory s goes f = tt
  all_fail start at xs (Refused r) s goes f = record { caused = f.caused; nothing = λ zs j a c. nothing_more start at xs r s goes f.nothing zs j a c }

  -- no two rows stand at an index
  pub one_row : Rows One begins → (i j m : ℕ) (xs ys : List A) → Many One i xs j → begins j ≡ false → Many One i ys m → begins m ≡ false → (xs ≡ ys) × (j ≡ m)
  one_row rows i j m xs ys g.none a g.none b = (refl, refl)
  one_row rows i j m xs ys g.none a (g.one_more {j = n} {x = y} one rest) b = absurd (not_both (begins i) (rows.begun i n y one) a)
  one_row rows i j m xs ys (g.one_more {j = n} {x = x} one rest) a g.none b = absurd (not_both (begins i) (rows.begun i n x one) b)
  one_row rows i j m xs ys (g.one_more {j = n} {x = x} {xs = vs} one rest) a (g.one_more {j = o} {x = y} {xs = ws} other more) b =
      let same = rows.unique i n o x y one other in
      let behind = one_row rows n j m vs ws rest a (subst (λ o. Many One o ws m) (sym same.1) more) b in
      (ap (λ (x : A). x ∷ vs) same.0 ∙ ap (λ (vs : List A). y ∷ vs) behind.0, behind.1)

map_more : {A B : Type 0} (view : B → A) (xs : List B) (x : B) → map view (xs ++ x ∷ []) ≡ map view xs ++ view x ∷ []
map_more view [] x = refl
map_more {A = A} view (y ∷ xs) x = ap (λ (zs : List A). view y ∷ zs) (map_more view xs x)

-- one more of what has the plain data
pub pushed : {A B : Type 0} (ts : List Token) (view : B → A) (One : ℕ → A → ℕ → Type 0) (Shallow : A → Type 0) (begins : ℕ → Bool) → Rows One begins → (start at j : ℕ) (old new : List B) (x : B)
    → SoFar One Shallow begins start (map view old) at → Fits (One at) Shallow (view x) j → new ≡ old ++ x ∷ [] → SoFar One Shallow begins start (map view new) j
pushed {A = A} ts view One Shallow begins rows start at j old new x s f e =
    subst (λ (xs : List A). SoFar One Shallow begins start xs j) (sym (ap (map view) e ∙ map_more view old x)) (one_more ts One Shallow begins rows start at j (map view old) (view x) s f.stands f.shallow)
