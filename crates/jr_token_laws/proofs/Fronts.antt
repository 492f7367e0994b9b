-- What is found at the front of a text that an element begins.
use Rattle.std.proofs.Common.{◌≡◌, ℕ, zero, suc, ◌+◌, ◌≤◌, Bool, true, false, if◌then◌else◌, not, ◌&&◌, [], ◌∷◌, ◌++◌, length, slice_index, replicate, Some, inl, inr, refl, sym, ◌∙◌, ap, subst, arith}
use Rattle.std.specs.Prelude.{◌==◌, codes}
use Rattle.std.specs.List.{prefix_len, list_all}
use Rattle.std.specs.Option.{option_map}
use Rattle.std.proofs.lemmas.Bool.{eqb-true, ne_eqb, and_parts, and_from, false_from_ne_true, true≢false}
use Rattle.jr_lexer.specs.Lexical.{Text, is_blank, in_line, is_at, begins_line_comment, begins_block_comment, before_close, without_last_at, without_last_ats}
use Rattle.jr_token_laws.specs.LongestSign.{BeginsWith}
use Rattle.jr_token_laws.specs.Spelling.{Stops}
use Rattle.jr_token_laws.specs.Elements.{IsBlank, EndsLine, HasNoLineFeed, HasNoClose, BeginsWithAt, EndsWithAt}
use Rattle.jr_token_laws.proofs.Prefixes.{first_two}
use Rattle.jr_token_laws.proofs.Annotations.{blank}
use Rattle.jr_token_laws.proofs.FirstSigns.{each}

pub when_true : {A : Type 0} (t : Bool) (x y : A) → t ≡ true → (if t then x else y) ≡ x
when_true true x y is = refl
when_true false x y is = absurd (true≢false (sym is))

pub when_false : {A : Type 0} (t : Bool) (x y : A) → t ≡ false → (if t then x else y) ≡ y
when_false true x y is = absurd (true≢false is)
when_false false x y is = refl

-- ---- runs

stops_at_once : (p : ℕ → Bool) (behind : Text) → Stops p behind → prefix_len p behind ≡ 0
stops_at_once p [] stops = refl
stops_at_once p (b ∷ behind) stops = when_false (p b) _ _ stops

pub whole_prefix : (p : ℕ → Bool) (text behind : Text) → list_all p text ≡ true → Stops p behind → prefix_len p (text ++ behind) ≡ length text
whole_prefix p [] behind all stops = stops_at_once p behind stops
whole_prefix p (b ∷ text) behind all stops =
    let both = and_parts (p b) (list_all p text) all in
    let rest = whole_prefix p text behind both.1 stops in
    when_true (p b) _ _ both.0 ∙ (let one : 1 + prefix_len p (text ++ behind) ≡ suc (length text) = omega arith in one)

pub head_stops : (p : ℕ → Bool) (behind : Text) → p 0 ≡ false → Stops p behind → p (slice_index behind 0) ≡ false
head_stops p [] none stops = none
head_stops p (b ∷ behind) none stops = stops

pub stops_before : (p : ℕ → Bool) (a : ℕ) (behind : Text) → ((b : ℕ) → p b ≡ true → b ≡ a) → (BeginsWith behind (a ∷ []) → ⊥) → Stops p behind
stops_before p a [] only otherwise = tt
stops_before p a (b ∷ behind) only otherwise = false_from_ne_true (p b) (λ is. otherwise (behind, ap (λ c. c ∷ behind) (only b is)))

pub head_kept : (bytes behind : Text) → 1 ≤ length bytes → slice_index (bytes ++ behind) 0 ≡ slice_index bytes 0
head_kept [] behind some = absurd (omega arith)
head_kept (b ∷ bytes) behind some = refl

-- ---- blanks

pub unblank : (b : ℕ) → IsBlank b → is_blank b ≡ true
unblank b is = each is_blank (32 ∷ 9 ∷ 10 ∷ 13 ∷ 12 ∷ []) refl b is

-- what no blank is
pub no_blank : (p : ℕ → Bool) → list_all (λ c. not (p c)) (32 ∷ 9 ∷ 10 ∷ 13 ∷ 12 ∷ []) ≡ true → (b : ℕ) → p b ≡ true → is_blank b ≡ false
no_blank p none b is = false_from_ne_true (is_blank b) (λ yes_blank. other (p b) is (each (λ c. not (p c)) (32 ∷ 9 ∷ 10 ∷ 13 ∷ 12 ∷ []) none b (blank b yes_blank)))
  where
    other : (t : Bool) → t ≡ true → not t ≡ true → ⊥
    other true is not_so = true≢false (sym not_so)
    other false is not_so = true≢false (sym is)

-- ---- lines

pub all_in_line : (text : Text) → HasNoLineFeed text → list_all in_line text ≡ true
all_in_line [] none = refl
all_in_line (b ∷ text) none =
    let other : (b == 10) ≡ false = ne_eqb b 10 (λ is. none (0, omega arith, is)) in
    and_from (in_line b) (list_all in_line text) (ap not other) (all_in_line text (λ c. none (suc c.0, omega (arith, c.1), c.2)))

pub line_stops : (behind : Text) → EndsLine behind → Stops in_line behind
line_stops behind (inl is) = subst (Stops in_line) (sym is) tt
line_stops behind (inr (rest, is)) = subst (Stops in_line) (sym is) refl

pub line_end_is_no_at : (behind : Text) → EndsLine behind → (slice_index behind 0 == 64) ≡ false
line_end_is_no_at behind (inl is) = ap (λ y. slice_index y 0 == 64) is
line_end_is_no_at behind (inr (rest, is)) = ap (λ y. slice_index y 0 == 64) is

-- ---- `@`

pub begins_otherwise : (text behind : Text) → (BeginsWithAt text → ⊥) → (slice_index behind 0 == 64) ≡ false → (slice_index (text ++ behind) 0 == 64) ≡ false
begins_otherwise [] behind otherwise none = none
begins_otherwise (b ∷ text) behind otherwise none = ne_eqb b 64 (λ is. otherwise (text, ap (λ c. c ∷ text) is))

pub begins_so : (text behind : Text) → BeginsWithAt text → (slice_index (text ++ behind) 0 == 64) ≡ true
begins_so text behind (rest, is) = ap (λ y. slice_index (y ++ behind) 0 == 64) is

pub all_ats : (n : ℕ) → list_all is_at (replicate n 64) ≡ true
all_ats zero = refl
all_ats (suc n) = all_ats n

run_is_nothing : (n : ℕ) → without_last_ats (replicate n 64) ≡ []
run_is_nothing zero = refl
run_is_nothing (suc n) = ap (without_last_at 64) (run_is_nothing n)

pub run_is_left_out : (text : Text) (n : ℕ) → (EndsWithAt text → ⊥) → without_last_ats (text ++ replicate n 64) ≡ text
run_is_left_out [] n otherwise = run_is_nothing n
run_is_left_out (b ∷ []) n otherwise =
    let other : is_at b ≡ false = ne_eqb b 64 (λ is. otherwise ([], ap (λ c. c ∷ []) is)) in
    ap (without_last_at b) (run_is_nothing n) ∙ when_false (is_at b) [] (b ∷ []) other
run_is_left_out (b ∷ c ∷ text) n otherwise = ap (without_last_at b) (run_is_left_out (c ∷ text) n (λ at. otherwise (b ∷ at.0, ap (λ y. b ∷ y) at.1)))

-- ---- comments

pub no_line_comment : (z : Text) → (BeginsWith z (codes "//") → ⊥) → begins_line_comment z ≡ false
no_line_comment z none = false_from_ne_true _ (λ is. none (first_two 47 47 z (λ e. absurd (omega arith)) (λ e. absurd (omega arith)) is))

pub no_block_comment : (z : Text) → (BeginsWith z (codes "/*") → ⊥) → begins_block_comment z ≡ false
no_block_comment z none = false_from_ne_true _ (λ is. none (first_two 47 42 z (λ e. absurd (omega arith)) (λ e. absurd (omega arith)) is))

no_close_sooner : (b : ℕ) (text behind : Text) → HasNoClose (b ∷ text) → (b == 42 && slice_index (text ++ (42 ∷ 47 ∷ behind)) 0 == 47) ≡ false
no_close_sooner b text behind none = false_from_ne_true _ (λ is. go text none (eqb-true b 42 (parts is).0) (eqb-true _ 47 (parts is).1))
  where
    parts : (b == 42 && slice_index (text ++ (42 ∷ 47 ∷ behind)) 0 == 47) ≡ true → ((b == 42) ≡ true) × ((slice_index (text ++ (42 ∷ 47 ∷ behind)) 0 == 47) ≡ true)
    parts is = and_parts (b == 42) (slice_index (text ++ (42 ∷ 47 ∷ behind)) 0 == 47) is

    go : (text : Text) → HasNoClose (b ∷ text) → b ≡ 42 → slice_index (text ++ (42 ∷ 47 ∷ behind)) 0 ≡ 47 → ⊥
    go [] none star slash = omega arith
    go (c ∷ text) none star slash = none [] text (ap (λ x. x ∷ c ∷ text) star ∙ ap (λ x. 42 ∷ x ∷ text) slash)

pub closes_there : (text behind : Text) → HasNoClose text → before_close (text ++ (42 ∷ 47 ∷ behind)) ≡ Some (length text)
closes_there [] behind none = refl
closes_there (b ∷ text) behind none =
    let rest = closes_there text behind (λ before more is. none (b ∷ before) more (ap (λ y. b ∷ y) is)) in
    let one : length text + 1 ≡ suc (length text) = omega arith in
    when_false _ _ _ (no_close_sooner b text behind none) ∙ ap (option_map (λ n. n + 1)) rest ∙ ap Some one
