-- What stands at the front of a text, and what comments end with.
use Rattle.std.proofs.Common.{◌≡◌, ℕ, zero, suc, ◌+◌, ◌≤◌, ◌<◌, Bool, true, false, if◌then◌else◌, ◌&&◌, [], ◌∷◌, ◌++◌, length, take, drop, get_or, replicate, Option, Some, None, inl, inr, refl, sym, ◌∙◌, ap, subst, arith}
use Rattle.std.specs.Prelude.{◌==◌, ◌⊎◌, codes}
use Rattle.std.specs.List.{prefix_len}
use Rattle.std.specs.Option.{option_map}
use Rattle.std.proofs.lemmas.Bool.{eqb-true, eq-eqb, and_parts, and_from, cases_lt, both_ways, not-false, true≢false}
use Rattle.std.proofs.lemmas.List.{drop_more, drop_all, get_or-take}
use Rattle.std.proofs.lemmas.List.Sums.{prefix_len_passes, prefix_len_stops}
use Rattle.std.proofs.lemmas.List.Folds.{length-prefix_len}
use Rattle.jr_lexer.specs.Lexical.{Text, in_line, is_at, before_close, without_last_at, without_last_ats}
use Rattle.jr_token_laws.specs.Elements.{EndsLine, HasNoLineFeed, HasNoClose, EndsWithAt}

same_cons : (a b : ℕ) (y z : Text) → a ≡ b → y ≡ z → a ∷ y ≡ b ∷ z
same_cons a b y z here rest = rw (here, rest) refl

-- a text with such a byte at its front
pub first : (a : ℕ) (z : Text) → (a ≡ 0 → ⊥) → (get_or z 0 0 == a) ≡ true → (r : Text) × (z ≡ a ∷ r)
first a [] some is = absurd (some (sym (eqb-true 0 a is)))
first a (b ∷ z) some is = (z, ap (λ k. k ∷ z) (eqb-true b a is))

pub first_two : (a b : ℕ) (z : Text) → (a ≡ 0 → ⊥) → (b ≡ 0 → ⊥) → (get_or z 0 0 == a && get_or z 1 0 == b) ≡ true → (r : Text) × (z ≡ a ∷ b ∷ r)
first_two a b [] one other is = absurd (one (sym (eqb-true 0 a (and_parts (0 == a) (0 == b) is).0)))
first_two a b (c ∷ z) one other is =
    let both = and_parts (c == a) (get_or z 0 0 == b) is in
    let second = first b z other both.1 in
    let here : c ≡ a = eqb-true c a both.0 in
    (second.0, same_cons c a z (b ∷ second.0) here second.1)

-- ---- lines

pub line_has_no_line_feed : (z : Text) → HasNoLineFeed (take (prefix_len in_line z) z)
line_has_no_line_feed z (k, within, is) =
    let below : k < prefix_len in_line z = rw length-prefix_len at within in
    let same : get_or z k 10 ≡ 10 = sym (get_or-take (prefix_len in_line z) z k 10 below) ∙ is in
    let passes : in_line (get_or z k 10) ≡ true = prefix_len_passes in_line z k 10 below in
    true≢false (sym passes ∙ ap in_line same)

pub line_ends : (z : Text) → EndsLine (drop (prefix_len in_line z) z)
line_ends z = go (cases_lt (prefix_len in_line z) (length z))
  where
    go : (prefix_len in_line z < length z) ⊎ (length z ≤ prefix_len in_line z) → EndsLine (drop (prefix_len in_line z) z)
    go (inl lt) =
        let stops : in_line (get_or z (prefix_len in_line z) 0) ≡ false = prefix_len_stops in_line z 0 lt in
        let is : get_or z (prefix_len in_line z) 0 ≡ 10 = eqb-true _ _ (not-false _ stops) in
        inr (drop (prefix_len in_line z + 1) z, drop_more z (prefix_len in_line z) 0 lt ∙ ap (λ k. k ∷ drop (prefix_len in_line z + 1) z) is)
    go (inr ge) = inl (drop_all (prefix_len in_line z) z ge)

-- ---- closes

nil_has_no_close : HasNoClose []
nil_has_no_close [] behind is = absurd (cc)
nil_has_no_close (b ∷ before) behind is = absurd (cc)

pub record Closes (z : Text) (n : ℕ) : Type 0 where
  pub behind : Text
  pub within : length (take n z) ≡ n
  pub is : z ≡ take n z ++ (42 ∷ 47 ∷ behind)
  pub no_sooner : HasNoClose (take n z)

close_further : (b : ℕ) (z : Text) (n : ℕ) → (b == 42 && get_or z 0 0 == 47) ≡ false → Closes z n → Closes (b ∷ z) (suc n)
close_further b z n otherwise c = record { behind = c.behind; within = ap suc c.within; is = ap (λ y. b ∷ y) c.is; no_sooner = sooner }
  where
    here : (y behind : Text) (n : ℕ) → take n y ≡ 47 ∷ behind → get_or y 0 0 ≡ 47
    here y behind zero is = absurd (cc)
    here [] behind (suc n) is = absurd (cc)
    here (a ∷ y) behind (suc n) is = ap (λ x. get_or x 0 0) is

    sooner : HasNoClose (b ∷ take n z)
    sooner [] behind is =
        let one : b ≡ 42 = ap (λ x. get_or x 0 0) is in
        let other : get_or z 0 0 ≡ 47 = here z behind n (ap (drop 1) is) in
        both_ways _ otherwise (and_from _ _ (eq-eqb _ _ one) (eq-eqb _ _ other))
    sooner (a ∷ before) behind is = c.no_sooner before behind (ap (drop 1) is)

pub closes : (z : Text) (n : ℕ) → before_close z ≡ Some n → Closes z n
closes [] n is = absurd (cc)
closes (b ∷ z) n is = go (b == 42 && get_or z 0 0 == 47) refl is (closes z)
  where
    further : (b == 42 && get_or z 0 0 == 47) ≡ false → (found : Option ℕ) → before_close z ≡ found → option_map (λ k. k + 1) found ≡ Some n → ((m : ℕ) → before_close z ≡ Some m → Closes z m) → Closes (b ∷ z) n
    further otherwise None found is rest = absurd (cc)
    further otherwise (Some m) found is rest =
        let step : m + 1 ≡ n = cc in
        let more : suc m ≡ n = omega arith in
        subst (Closes (b ∷ z)) more (close_further b z m otherwise (rest m found))

    go : (t : Bool) → (b == 42 && get_or z 0 0 == 47) ≡ t → (if t then Some 0 else option_map (λ k. k + 1) (before_close z)) ≡ Some n → ((m : ℕ) → before_close z ≡ Some m → Closes z m) → Closes (b ∷ z) n
    go true test is rest =
        let none : 0 ≡ n = cc in
        let both = and_parts (b == 42) (get_or z 0 0 == 47) test in
        let next = first 47 z (λ e. absurd (omega arith)) both.1 in
        let one : b ≡ 42 = eqb-true b 42 both.0 in
        subst (Closes (b ∷ z)) none (record { behind = next.0; within = refl; is = same_cons b 42 z (47 ∷ next.0) one next.1; no_sooner = nil_has_no_close })
    go false test is rest = further test (before_close z) refl is rest

-- ---- the run of `@` at the end

pub record Trimmed (z w : Text) : Type 0 where
  pub count : ℕ
  pub is : z ≡ w ++ replicate count 64
  pub whole : EndsWithAt w → ⊥

pub trimmed : (z : Text) → Trimmed z (without_last_ats z)
trimmed [] = record { count = 0; is = refl; whole = none }
  where
    none : EndsWithAt [] → ⊥
    none ([], is) = cc
    none (b ∷ before, is) = cc
trimmed (b ∷ z) = go (without_last_ats z) (trimmed z)
  where
    alone : (is_at b ≡ false) → EndsWithAt (b ∷ []) → ⊥
    alone other ([], is) = both_ways _ other (eq-eqb _ _ (ap (λ x. get_or x 0 0) is))
    alone other (c ∷ [], is) = absurd (let e : [] ≡ 64 ∷ [] = ap (drop 1) is in cc)
    alone other (c ∷ d ∷ before, is) = absurd (let e : [] ≡ d ∷ (before ++ codes "@") = ap (drop 1) is in cc)

    longer : (c : ℕ) (w : Text) → (EndsWithAt (c ∷ w) → ⊥) → EndsWithAt (b ∷ c ∷ w) → ⊥
    longer c w rest ([], is) = absurd (let e : c ∷ w ≡ [] = ap (drop 1) is in cc)
    longer c w rest (d ∷ before, is) = rest (before, ap (drop 1) is)

    one : (t : Bool) → is_at b ≡ t → (k : ℕ) → z ≡ replicate k 64 → Trimmed (b ∷ z) (if t then [] else b ∷ [])
    one true test k is = let at : b ≡ 64 = eqb-true _ _ test in record { count = suc k; is = rw (at, is) refl; whole = none }
      where
        none : EndsWithAt [] → ⊥
        none ([], is) = cc
        none (b ∷ before, is) = cc
    one false test k is = record { count = k; is = ap (λ y. b ∷ y) is; whole = alone test }

    go : (w : Text) → Trimmed z w → Trimmed (b ∷ z) (without_last_at b w)
    go [] t = one (is_at b) refl t.count t.is
    go (c ∷ w) t = record { count = t.count; is = ap (λ y. b ∷ y) t.is; whole = longer c w t.whole }
